-- The lines of an input of `pendlist`. Decided here: a newline (10) ends a line; what follows the last newline is a
-- line too, unless nothing follows it. So an input that ends with a newline has no further line, and an empty line is
-- one.
use Rattle.std.specs.Prelude.{cond, List, [], ◌∷◌, ℕ, suc, eqb}
use Rattle.pendlist_words.specs.Words.{longer}

unfoldable pub lines_of : List ℕ → List (List ℕ)
lines_of [] = []
lines_of (b ∷ s) = cond (eqb b 10) ([] ∷ lines_of s) (longer b (lines_of s))

-- what stands before the first newline
unfoldable pub first_line : List ℕ → List ℕ
first_line [] = []
first_line (b ∷ s) = cond (eqb b 10) [] (b ∷ first_line s)

-- how many bytes there are up to the last newline, with it; 0 where there is none
unfoldable pub whole_lines : List ℕ → ℕ
whole_lines [] = 0
whole_lines (b ∷ s) = cond (eqb (whole_lines s) 0) (cond (eqb b 10) 1 0) (suc (whole_lines s))
