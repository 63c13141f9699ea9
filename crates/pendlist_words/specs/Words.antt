-- The words of an input line of `pendlist`, and the number that a word says (document 01, "Cases"). Decided here:
-- words are separated by exactly one blank (32), and none stands before the first word or behind the last; a number is
-- one or more decimal digits, leading zeros are taken, and above 2^64 - 1 it is none.
use Rattle.std.specs.Prelude.{Option, Some, None, Bool, true, false, cond, List, [], ◌∷◌, ℕ, ◌+◌, ◌*◌, ◌-◌, length, get_or, eqb, leb}

-- the words with one byte more at the front of the first
abbrev pub longer : ℕ → List (List ℕ) → List (List ℕ)
longer b [] = (b ∷ []) ∷ []
longer b (w ∷ ws) = (b ∷ w) ∷ ws

-- the words of a line: what its blanks part. There is one word more than blanks, and a word can be empty
unfoldable pub words_of : List ℕ → List (List ℕ)
words_of [] = [] ∷ []
words_of (b ∷ s) = cond (eqb b 32) ([] ∷ words_of s) (longer b (words_of s))

-- word k, counted from 0; the empty word where there is none
abbrev pub word_at : ℕ → List (List ℕ) → List ℕ
word_at k ws = get_or ws k []

-- whether a word is this one byte
unfoldable pub is_byte : ℕ → List ℕ → Bool
is_byte b w = cond (eqb (length w) 1) (eqb (get_or w 0 0) b) false

-- `0` to `9`
abbrev pub is_digit : ℕ → Bool
is_digit b = cond (leb 48 b) (leb b 57) false

-- digits alone
unfoldable pub all_digits : List ℕ → Bool
all_digits [] = true
all_digits (b ∷ w) = cond (is_digit b) (all_digits w) false

-- the value of digits behind a number: each makes it ten times as large and is added
unfoldable pub value_from : ℕ → List ℕ → ℕ
value_from v [] = v
value_from v (b ∷ w) = value_from (v * 10 + (b - 48)) w

-- 2^64 - 1
abbrev pub most : ℕ
most = 18446744073709551615

-- the number that digits behind a number make, if they are digits and it is at most 2^64 - 1
unfoldable pub number_from : ℕ → List ℕ → Option ℕ
number_from v w =
    cond (all_digits w) (cond (leb (value_from v w) most) (Some (value_from v w)) None) None

-- the number that a word says, if it says one: an empty word says none
unfoldable pub number_of : List ℕ → Option ℕ
number_of [] = None
number_of (b ∷ w) = number_from 0 (b ∷ w)
