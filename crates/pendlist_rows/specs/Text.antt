-- The text of the table (document 01, "Cases").
use Rattle.std.specs.Prelude.{◌≡◌, cond, List, [], ◌∷◌, ◌++◌, ℕ, zero, suc, ◌+◌, ◌/◌, ◌%◌, ◌^◌, ◌≤◌, ltb, take}
use Rattle.pendlist_rows.specs.declared.Row.{Row}
use Rattle.pendlist_rows.specs.declared.Outcome.{Outcome}
use Rattle.pendlist_rows.specs.declared.Outcome.TheVariants.{Opened, Told, Bad}

-- how many decimal digits a number has: k or more, of which up to so many are tried
unfoldable pub places_from : (tries k : ℕ) → ℕ → ℕ
places_from zero k n = k
places_from (suc tries) k n = cond (ltb n (10 ^ k)) k (places_from tries (suc k) n)

-- the last k decimal digits of a number, the most significant first
abbrev pub last_digits : ℕ → ℕ → List ℕ
last_digits zero n = []
last_digits (suc k) n = last_digits k (n / 10) ++ ((48 + n % 10) ∷ [])

-- a number of 64 bits in decimal, without leading zeros: it has 1 to 20 digits
unfoldable pub decimal_of : ℕ → List ℕ
decimal_of n = last_digits (places_from 19 1 n) n

abbrev pub number_text : ℕ → List ℕ
number_text n = 32 ∷ decimal_of n

-- numbers, a blank before each
unfoldable pub numbers_text : List ℕ → List ℕ
numbers_text [] = []
numbers_text (n ∷ ns) = number_text n ++ numbers_text ns

-- "call answer held bytes cached dropped"
abbrev pub row_text : Row → List ℕ
row_text r =
    (r.call ∷ []) ++ numbers_text (r.answer ∷ r.held ∷ r.bytes ∷ r.cached ∷ r.dropped ∷ []) ++ (10 ∷ [])

-- what is written of a line: nothing of a `c` that is accepted
abbrev pub outcome_text : Outcome → List ℕ
outcome_text Opened = []
outcome_text (Told r) = row_text r
outcome_text Bad = 98 ∷ 97 ∷ 100 ∷ 10 ∷ []

-- The text stands at the front, r bytes; it has at most so many.
pub record Puts (text : List ℕ) (most r : ℕ) (out' : List ℕ) : Type 0 where
  pub stands : take r out' ≡ text
  pub short : r ≤ most
