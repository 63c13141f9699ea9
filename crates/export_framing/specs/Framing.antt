-- How a preflight's answer crosses to C: a number, and three words that are written on success only.
use Rattle.std.specs.Prelude.{◌≡◌, List, [], ◌∷◌, ℕ}
use Rattle.wire.specs.declared.Reading.{Reading}
use Rattle.output_preflight.specs.Preflight.{Answer, cost, number, preflight_of}

-- 0 for a cost, else document 01's number
abbrev pub exported_number : Answer → ℕ
exported_number (cost v p m) = 0
exported_number (number n) = n

-- field values, payload bytes, remainder; unchanged on a refusal
abbrev pub exported_cost : Answer → List ℕ → List ℕ
exported_cost (cost v p m) words = v ∷ p ∷ m ∷ []
exported_cost (number n) words = words

-- an answer handed over: r is returned, and the three words before and after
pub record Exported (answer : Answer) (r : ℕ) (words words' : List ℕ) : Type 0 where
  pub returned : r ≡ exported_number answer
  pub written : words' ≡ exported_cost answer words

-- the preflight of a body, handed over
abbrev pub Preflights : List ℕ → List ℕ → Reading → ℕ → ℕ → List ℕ → List ℕ → Type 0
Preflights body ws reading limit r words words' = Exported (preflight_of body ws reading limit) r words words'
