-- A list put into the place of as many elements of a longer one, and a copy into a part that is lent.
-- Assumes nothing.
use mathlib.Core.Path.{◌≡◌, refl, sym, ap, ◌∙◌}
use mathlib.Core.List.{List, ◌++◌, append_assoc, append-nil}
use Prim.Native.Nat.{ℕ, ◌+◌, ◌-◌, ◌≤◌}
use native.Mathlib.Omega.{arith}
use lib.ListN.{length, take, drop, length-append, length-drop}
use lib.Seq.{take-take, take_at, drop_at, drop-drop, drop-length, length-take-le}
use Rattle.std.proofs.lemmas.List.{drop-take}
use borrow.Rule.Slice.PartMut.{mid_of, put_mid}
use Rattle.areas.specs.Overwrite.{overwritten, put_at}

module _ {X : Type 0} where
  -- less of the same
  pub take_less : (m n : ℕ) (l l' : List X) → m ≤ n → take n l ≡ take n l' → take m l ≡ take m l'
  take_less m n l l' h e = sym (take-take m n l h) ∙ ap (take m) e ∙ take-take m n l' h

  pub drop_more : (m n : ℕ) (l l' : List X) → n ≤ m → drop n l ≡ drop n l' → drop m l ≡ drop m l'
  drop_more m n l l' h e =
      let z : n + (m - n) ≡ m = omega arith in
      ap (λ (j : ℕ). drop j l) (sym z) ∙ sym (drop-drop (m - n) n l) ∙ ap (drop (m - n)) e ∙ drop-drop (m - n) n l'
      ∙ ap (λ (j : ℕ). drop j l') z

  -- a part that ends at m or before, where the first m elements are the same
  pub part_same : (m p k : ℕ) (l l' : List X) → take m l ≡ take m l' → p + k ≤ m →
      take k (drop p l) ≡ take k (drop p l')
  part_same m p k l l' e h =
      sym (drop-take p k l)
      ∙ ap (drop p) (take_less (p + k) m l l' h e)
      ∙ drop-take p k l'

  pub length_part : (at n : ℕ) (xs : List X) → at + n ≤ length xs → length (take n (drop at xs)) ≡ n
  length_part at n xs h = length-take-le n (drop at xs) (omega (arith, length-drop at xs))

  module _ (at : ℕ) (ys xs : List X) (within : at + length ys ≤ length xs) where
    length_front : length (take at xs) ≡ at
    length_front = length-take-le at xs (omega arith)

    length_written : length (take at xs ++ ys) ≡ at + length ys
    length_written = rw (length-append, length_front)

    pub length_put : length (put_at at ys xs) ≡ length xs
    unfolding put_at
    length_put = simp (length-append, length-drop, length_front) (omega arith)

    -- the place holds ys
    pub put_there : take (length ys) (drop at (put_at at ys xs)) ≡ ys
    unfolding put_at
    put_there =
        rw (drop_at (take at xs) (ys ++ drop (at + length ys) xs) at length_front) (take_at ys _ (length ys) refl)

    -- what stands before the place and behind it is unchanged
    pub take_put : take at (put_at at ys xs) ≡ take at xs
    unfolding put_at
    take_put = take_at (take at xs) (ys ++ drop (at + length ys) xs) at length_front

    pub drop_put : drop (at + length ys) (put_at at ys xs) ≡ drop (at + length ys) xs
    unfolding put_at
    drop_put =
        rw (← append_assoc)
        (drop_at (take at xs ++ ys) (drop (at + length ys) xs) (at + length ys) length_written)

    pub drop_put_from : (m : ℕ) → at + length ys ≤ m → drop m (put_at at ys xs) ≡ drop m xs
    drop_put_from m h = drop_more m (at + length ys) (put_at at ys xs) xs h drop_put

  -- a copy that fills all that it is given leaves the copied
  pub overwritten_whole : (xs ys : List X) → length xs ≡ length ys → overwritten xs ys ≡ ys
  unfolding overwritten
  overwritten_whole xs ys e = rw (← e, drop-length, append-nil)

  -- a part of ys's length is lent, overwritten by ys and given back
  pub part_written : (at n : ℕ) (xs ys part : List X) → part ≡ overwritten (mid_of at n xs) ys →
      n ≡ length ys → at + n ≤ length xs → put_mid at n xs part ≡ put_at at ys xs
  unfolding put_at
  part_written at n xs ys part is e within =
      let k : length (mid_of at n xs) ≡ length ys = length_part at n xs within ∙ e in
      rw (is ∙ overwritten_whole (mid_of at n xs) ys k, drop-drop, e)

  -- the same, where the part is given by its place and its end
  pub range_written : (at : ℕ) (xs ys part : List X) → part ≡ overwritten (mid_of at (at + length ys - at) xs) ys →
      at + length ys ≤ length xs → put_mid at (at + length ys - at) xs part ≡ put_at at ys xs
  range_written at xs ys part is within =
      part_written at (at + length ys - at) xs ys part is (omega arith) (omega arith)
