-- Bodies that weigh the same, whatever the weight, are the same bodies in another order.
-- Assumes nothing.
use mathlib.Core.Path.{◌≡◌, refl, sym, ap, subst}
use mathlib.Core.List.Permᴰ
use mathlib.Core.List.{List, [], ◌∷◌, ◌++◌, List-discrete, Permᴰ as Rearranged}
use Prim.Native.Nat.{ℕ, ◌+◌, ◌≤◌}
use native.Mathlib.Omega.{arith}
use native.Mathlib.Decide.{ℕ_discrete}
use Rattle.cache_model.specs.Bodies.{Body, sum_bodies}
use Rattle.cache_model.proofs.Weights.{sum_append}

same_body : (b x : Body) → Dec (b ≡ x)
same_body b x =
    by_fields (ℕ_discrete b.number x.number) (List-discrete ℕ_discrete b.bytes x.bytes)
    (ℕ_discrete b.clock x.clock)
  where
    by_fields : Dec (b.number ≡ x.number) → Dec (b.bytes ≡ x.bytes) → Dec (b.clock ≡ x.clock) → Dec (b ≡ x)
    by_fields (yes p) (yes q) (yes r) = yes (λ i. record { number = p i; bytes = q i; clock = r i })
    by_fields (yes p) (yes q) (no n) = no (λ e. n (ap (λ (y : Body). y.clock) e))
    by_fields (yes p) (no n) r = no (λ e. n (ap (λ (y : Body). y.bytes) e))
    by_fields (no n) q r = no (λ e. n (ap (λ (y : Body). y.number) e))

abbrev one_if : {P : Type 0} → Dec P → ℕ
one_if (yes p) = 1
one_if (no n) = 0

-- the weight that tells a body from all others
abbrev is : Body → Body → ℕ
is b x = one_if (same_body b x)

is_itself : (b : Body) (d : Dec (b ≡ b)) → one_if d ≡ 1
is_itself b (yes p) = refl
is_itself b (no n) = absurd (n refl)

find : (b : Body) (bs : List Body) → 1 ≤ sum_bodies (is b) bs
    → (xs : List Body) × (ys : List Body) × (bs ≡ xs ++ (b ∷ ys))
find b [] h = absurd (omega arith)
find b (x ∷ bs) h = first (same_body b x) (find b bs) h
  where
    Found : List Body → Type 0
    Found zs = (xs : List Body) × (ys : List Body) × (zs ≡ xs ++ (b ∷ ys))

    first : (d : Dec (b ≡ x)) → (1 ≤ sum_bodies (is b) bs → Found bs) → 1 ≤ one_if d + sum_bodies (is b) bs
        → Found (x ∷ bs)
    first (yes e) r h = ([], bs, ap (λ (y : Body). y ∷ bs) (sym e))
    first (no n) r h = let f = r (omega arith) in (x ∷ f.0, f.1, ap (λ (zs : List Body). x ∷ zs) f.2)

-- the first body stands somewhere among the others; without both, the rest weighs the same
pub rearranged : (xs ys : List Body) → ((w : Body → ℕ) → sum_bodies w xs ≡ sum_bodies w ys) → Rearranged xs ys
rearranged [] [] h = Rearranged.nil
rearranged [] (y ∷ ys) h = absurd (omega (arith, h (λ _. 1)))
rearranged (x ∷ xs) ys h =
    let f = find x ys (omega (arith, h (is x), is_itself x (same_body x x))) in
    let rest = rearranged xs (f.0 ++ f.1) (without_first f.0 f.1 f.2) in
    let back = Permᴰ.symm (Permᴰ.middle x f.0 f.1) in
    subst (Rearranged (x ∷ xs)) (sym f.2) (Rearranged.trans (Rearranged.cons refl rest) back)
  where
    without_first : (ps qs : List Body) → ys ≡ ps ++ (x ∷ qs) → (w : Body → ℕ)
        → sum_bodies w xs ≡ sum_bodies w (ps ++ qs)
    without_first ps qs e w =
        omega (arith, h w, ap (sum_bodies w) e, sum_append w ps (x ∷ qs), sum_append w ps qs)
