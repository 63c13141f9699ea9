-- The lines of a text that goes on: its whole lines stay, and what follows them begins the next line. Assumes
-- nothing.
use mathlib.Core.Path.{◌≡◌, refl}
use mathlib.Core.Bool.{Bool, true, false, cond}
use mathlib.Core.List.{List, [], ◌∷◌, ◌++◌}
use Prim.Native.Nat.{ℕ, zero, suc, ◌≤◌, ◌<◌}
use native.Mathlib.Omega.{arith}
use lib.ListN.{length, take, drop, length-take}
use lib.Dec.{eqb}
use borrow.Author.Tests.{ne_eqb}
use Rattle.pendlist_input.specs.Input.{lines_of, first_line, whole_lines}
use Rattle.pendlist_words.specs.Words.{longer}
use Rattle.pendlist_input.proofs.Ends.{first_of_lines, whole_within}

-- a byte more at the front of the first line leaves the others, where there is a first line
longer_front : (b : ℕ) (xs ys : List (List ℕ)) → 0 < length xs → longer b (xs ++ ys) ≡ longer b xs ++ ys
longer_front b [] ys h = absurd (omega arith)
longer_front b (x ∷ xs) ys h = refl

some_lines : (s : List ℕ) → 0 < length s → 0 < length (lines_of s)
some_lines s h = rw (first_of_lines s h) (omega arith)

-- The whole lines of a text are its first lines however it goes on.
pub lines_parted : (s t : List ℕ) →
    lines_of (s ++ t) ≡ lines_of (take (whole_lines s) s) ++ lines_of (drop (whole_lines s) s ++ t)
unfolding lines_of whole_lines
lines_parted [] t = refl
lines_parted (b ∷ s) t = by_lines (whole_lines s) refl (lines_parted s t)
  where
    by_lines : (w : ℕ) → whole_lines s ≡ w →
        lines_of (s ++ t) ≡ lines_of (take w s) ++ lines_of (drop w s ++ t) →
        lines_of (b ∷ s ++ t)
        ≡ lines_of (take (cond (eqb w 0) (cond (eqb b 10) 1 0) (suc w)) (b ∷ s))
        ++ lines_of (drop (cond (eqb w 0) (cond (eqb b 10) 1 0) (suc w)) (b ∷ s) ++ t)
    by_lines zero e more = by_test (eqb b 10) refl
      where
        by_test : (q : Bool) → eqb b 10 ≡ q →
            lines_of (b ∷ s ++ t)
            ≡ lines_of (take (cond q 1 0) (b ∷ s)) ++ lines_of (drop (cond q 1 0) (b ∷ s) ++ t)
        by_test true f = rw f
        by_test false f = refl
    by_lines (suc w) e more = rw (ne_eqb (suc w) 0 (omega arith)) (by_test (eqb b 10))
      where
        some : 0 < length (lines_of (take (suc w) s))
        some = some_lines (take (suc w) s) (omega (arith, length-take (suc w) s, whole_within s))

        by_test : (q : Bool) →
            cond q ([] ∷ lines_of (s ++ t)) (longer b (lines_of (s ++ t)))
            ≡ cond q ([] ∷ lines_of (take (suc w) s)) (longer b (lines_of (take (suc w) s)))
            ++ lines_of (drop (suc w) s ++ t)
        by_test true = rw more
        by_test false = rw more (longer_front b (lines_of (take (suc w) s)) (lines_of (drop (suc w) s ++ t)) some)

-- What follows the whole lines has no newline: the first line of it and what comes is as long, or longer.
pub rest_in_first : (s t : List ℕ) →
    length (drop (whole_lines s) s) ≤ length (first_line (drop (whole_lines s) s ++ t))
unfolding first_line whole_lines
rest_in_first [] t = omega arith
rest_in_first (b ∷ s) t = by_lines (whole_lines s) (rest_in_first s t)
  where
    by_lines : (w : ℕ) → length (drop w s) ≤ length (first_line (drop w s ++ t)) →
        length (drop (cond (eqb w 0) (cond (eqb b 10) 1 0) (suc w)) (b ∷ s))
        ≤ length (first_line (drop (cond (eqb w 0) (cond (eqb b 10) 1 0) (suc w)) (b ∷ s) ++ t))
    by_lines zero more = by_test (eqb b 10) refl
      where
        by_test : (q : Bool) → eqb b 10 ≡ q →
            length (drop (cond q 1 0) (b ∷ s)) ≤ length (first_line (drop (cond q 1 0) (b ∷ s) ++ t))
        by_test true f = more
        by_test false f = rw f (omega arith)
    by_lines (suc w) more = rw (ne_eqb (suc w) 0 (omega arith)) more
