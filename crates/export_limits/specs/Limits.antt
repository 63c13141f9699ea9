-- The limits, and a budget with two of them, for C: what each call returns, and writes into the words that it is lent.
use Rattle.std.specs.Prelude.{List, [], ℕ}
use Rattle.output_budget.specs.Told.{done}
use Rattle.output_budget.specs.Budget.{opened}
use Rattle.output_limits.specs.Limits.{limits_told}
use Rattle.budget_words.specs.Words.{word, Answers, Changes}

-- `DecodedOutputLimits::new`
abbrev pub TestsLimits : ℕ → ℕ → ℕ → ℕ → List ℕ → List ℕ → Type 0
TestsLimits records v p r limits limits' =
    Answers (limits_told records (record { 0 = v }) (record { 0 = p })) r limits limits'

-- `DecodedOutputBudget::new`, and `set_limits` of any budget
abbrev pub Opens : ℕ → ℕ → ℕ → List ℕ → Type 0
Opens v p r budget' = Changes done (opened (record { 0 = v }) (record { 0 = p })) r [] [] budget'

-- `reset`
abbrev pub Resets : ℕ → List ℕ → List ℕ → Type 0
Resets r budget budget' = Opens (word budget 0) (word budget 1) r budget'
