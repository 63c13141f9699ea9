-- What a case of document 01 asks of the definitions, and the answer as it is written there: a number, then values.
use Rattle.std.specs.Prelude.{List, [], ◌∷◌, ℕ}
use Rattle.wire.specs.declared.Reading.{Reading}
use Rattle.output_preflight.specs.Preflight.{Answer, cost, number, preflight_of}
use Rattle.output_preflight.specs.declared.FieldValues.{FieldValues}
use Rattle.output_preflight.specs.declared.PayloadBytes.{PayloadBytes}
use Rattle.output_budget.specs.declared.DecodedOutputBudget.{DecodedOutputBudget}
use Rattle.output_budget.specs.Told.{Told}
use Rattle.output_budget.specs.Budget.{reserve_told}
use Rattle.config.specs.declared.PendingFlowsConfig.{PendingFlowsConfig}
use Rattle.cache_model.specs.History.{Call}
use Rattle.cache_model.specs.Told.{answers_to, held_after}

pub data Question : Type 0 where
  -- the preflight of a body: its bytes, the widths, the reading, the record limit
  preflight : List ℕ → List ℕ → Reading → ℕ → Question
  -- a reservation of field values and payload bytes
  reserve : DecodedOutputBudget → FieldValues → PayloadBytes → Question
  -- calls on a newly opened cache: each one's answer
  calls : PendingFlowsConfig → List Call → Question
  -- the same: id and body lengths of each held template afterwards, least recent first
  held : PendingFlowsConfig → List Call → Question

-- 0, field values, payload bytes, remainder; or the number of the refusal
abbrev pub preflight_told : Answer → List ℕ
preflight_told (cost v p m) = 0 ∷ v ∷ p ∷ m ∷ []
preflight_told (number n) = n ∷ []

-- the number, then its values
abbrev pub budget_told : Told → List ℕ
budget_told t = t.number ∷ t.values

-- one answer, or one for each call or template
abbrev pub told : Question → List (List ℕ)
told (preflight body ws r limit) = preflight_told (preflight_of body ws r limit) ∷ []
told (reserve b v p) = budget_told (reserve_told b v p) ∷ []
told (calls l cs) = answers_to l cs
told (held l cs) = held_after l cs
