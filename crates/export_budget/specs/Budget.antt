-- The calls on the use of a budget for C: what each returns, and writes into the words that it is lent.
use Rattle.std.specs.Prelude.{Bool, cond, List, [], ◌∷◌, ℕ, None}
use Rattle.output_budget.specs.declared.OutputCounts.{OutputCounts}
use Rattle.output_budget.specs.Told.{Told}
use Rattle.output_budget.specs.Budget.{with_use, remaining_of, is_recorded, told_of_exceeded}
use Rattle.output_budget.specs.Budget.{reserve_told, reserve_budget, rollback_told, rollback_budget}
use Rattle.budget_words.specs.Words.{budget_of, Answers, Changes, ChangesUnlessRefused}

-- two counts as an answer
abbrev pub told_of_counts : OutputCounts → Told
told_of_counts c = record { number = 0; values = c.values.0 ∷ c.payload_bytes.0 ∷ [] }

-- yes is 1, no is 0
abbrev pub told_of_test : Bool → Told
told_of_test t = record { number = 0; values = cond t 1 0 ∷ [] }

-- `reserve`: on 23 and 24 the excess is written
abbrev pub ReservesIn : ℕ → ℕ → ℕ → List ℕ → List ℕ → List ℕ → List ℕ → Type 0
ReservesIn v p r excess excess' budget budget' =
    Changes (reserve_told (budget_of budget) (record { 0 = v }) (record { 0 = p }))
    (reserve_budget (budget_of budget) (record { 0 = v }) (record { 0 = p })) r excess excess' budget'

-- `rollback`
abbrev pub RollsBackIn : ℕ → ℕ → ℕ → List ℕ → List ℕ → Type 0
RollsBackIn v p r budget budget' =
    ChangesUnlessRefused (rollback_told (budget_of budget) (record { 0 = v }) (record { 0 = p }))
    (rollback_budget (budget_of budget) (record { 0 = v }) (record { 0 = p })) r [] [] budget budget'

-- `remaining`: both counts are written
abbrev pub TellsRemaining : List ℕ → ℕ → List ℕ → List ℕ → Type 0
TellsRemaining budget r counts counts' = Answers (told_of_counts (remaining_of (budget_of budget))) r counts counts'

-- `is_exceeded`: 1 or 0 is written
abbrev pub TellsExceeded : List ℕ → ℕ → List ℕ → List ℕ → Type 0
TellsExceeded budget r answer answer' =
    Answers (told_of_test (is_recorded (budget_of budget).exceeded)) r answer answer'

-- `take_exceeded`: the excess is written where one is recorded
abbrev pub TakesIn : ℕ → List ℕ → List ℕ → List ℕ → List ℕ → Type 0
TakesIn r excess excess' budget budget' =
    let b = budget_of budget in
    Changes (told_of_exceeded b.exceeded) (with_use b b.used_values b.used_payload_bytes None)
    r excess excess' budget'
