-- What an answer tells: document 01's number, and the values that go with it.
use Rattle.std.specs.Prelude.{ℕ, List, []}

-- the number is 0 where the call was done
pub record Told : Type 0 where
  pub number : ℕ
  pub values : List ℕ

-- done, with no value
abbrev pub done : Told
done = record { number = 0; values = [] }

-- refused, with no value
abbrev pub refusal : ℕ → Told
refusal n = record { number = n; values = [] }
