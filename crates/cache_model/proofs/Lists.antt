-- Parts of a list, in which elements are missing and none has moved. Assumes nothing.
use mathlib.Core.Path.{◌≡◌, refl, sym, subst}
use mathlib.Core.List.{List, [], ◌∷◌, ◌++◌}
use Prim.Native.Nat.{ℕ, zero, suc, ◌≤◌}
use native.Mathlib.Omega.{arith}
use lib.ListN.{length, drop}
use Rattle.config.proofs.Lists.{All}

-- the first list is the second with elements missing, and a related one in place of each that stays
pub data Part {A : Type 0} (R : A → A → Type 0) : List A → List A → Type 0 where
  none : Part R [] []
  both : {x y : A} {xs ys : List A} → R x y → Part R xs ys → Part R (x ∷ xs) (y ∷ ys)
  skip : {y : A} {xs ys : List A} → Part R xs ys → Part R xs (y ∷ ys)

-- the elements that stay are unaltered
abbrev pub SubList : {A : Type 0} → List A → List A → Type 0
SubList xs ys = Part ◌≡◌ xs ys

module _ {A : Type 0} where
  pub all_part : {R : A → A → Type 0} {xs ys : List A} (P : A → Type 0) → ((x y : A) → R x y → P y → P x)
      → Part R xs ys → All P ys → All P xs
  all_part P f none a = tt
  all_part P f (both {x = x} {y = y} r s) a = (f x y r a.0, all_part P f s a.1)
  all_part P f (skip s) a = all_part P f s a.1

  pub all_sub : {xs ys : List A} (P : A → Type 0) → SubList xs ys → All P ys → All P xs
  all_sub P s a = all_part P (λ x y e p. subst P (sym e) p) s a

  pub part_map : {R S : A → A → Type 0} {xs ys : List A} → ((x y : A) → R x y → S x y) → Part R xs ys → Part S xs ys
  part_map f none = none
  part_map f (both {x = x} {y = y} r s) = both (f x y r) (part_map f s)
  part_map f (skip s) = skip (part_map f s)

  pub length_part : {R : A → A → Type 0} {xs ys : List A} → Part R xs ys → length xs ≤ length ys
  length_part none = omega arith
  length_part (both r s) = omega (arith, length_part s)
  length_part (skip s) = omega (arith, length_part s)

  pub sub_all : (xs : List A) → SubList xs xs
  sub_all [] = none
  sub_all (x ∷ xs) = both refl (sub_all xs)

  pub sub_none : (xs : List A) → SubList [] xs
  sub_none [] = none
  sub_none (x ∷ xs) = skip (sub_none xs)

  pub sub_drop : (n : ℕ) (xs : List A) → SubList (drop n xs) xs
  sub_drop zero xs = sub_all xs
  sub_drop (suc n) [] = none
  sub_drop (suc n) (x ∷ xs) = skip (sub_drop n xs)

  pub part_trans : {R : A → A → Type 0} {xs ys zs : List A} → ((x y z : A) → R x y → R y z → R x z)
      → Part R xs ys → Part R ys zs → Part R xs zs
  part_trans f s none = s
  part_trans {R = R} f (both {x = x} {xs = xs} q s) (both {x = y} {y = z} {xs = xs'} {ys = ys} r t) =
      both (f x y z q r) (part_trans {R = R} {xs = xs} {ys = xs'} {zs = ys} f s t)
  part_trans {R = R} {xs = xs} f (skip {ys = ys} s) (both {ys = zs} r t) =
      skip (part_trans {R = R} {xs = xs} {ys = ys} {zs = zs} f s t)
  part_trans {R = R} {xs = xs} {ys = ys} f s (skip {ys = zs} t) =
      skip (part_trans {R = R} {xs = xs} {ys = ys} {zs = zs} f s t)

  pub part_append : {R : A → A → Type 0} {xs ys us vs : List A} → Part R xs ys → Part R us vs
      → Part R (xs ++ us) (ys ++ vs)
  part_append none s = s
  part_append (both r t) s = both r (part_append t s)
  part_append (skip t) s = skip (part_append t s)

  pub sub_front : (xs ys : List A) → SubList xs (xs ++ ys)
  sub_front [] ys = sub_none ys
  sub_front (x ∷ xs) ys = both refl (sub_front xs ys)
