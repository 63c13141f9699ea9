-- The calls on queued bodies for C: what each returns, and writes into the words that it is lent.
use Rattle.std.specs.Prelude.{List, [], ℕ}
use Rattle.output_pending.specs.Pending.{full_budget_told, remaining_told, materialize_told, materialize_budget}
use Rattle.budget_words.specs.Words.{budget_of, preflight_by, report_by, Answers, ChangesUnlessRefused}

-- `validate_pending_full_budget`
abbrev pub FitsWhole : List ℕ → ℕ → List ℕ → ℕ → Type 0
FitsWhole budget number cost r = Answers (full_budget_told (budget_of budget) (preflight_by number cost)) r [] []

-- `validate_pending_remaining`
abbrev pub FitsRemaining : List ℕ → ℕ → List ℕ → ℕ → Type 0
FitsRemaining budget number cost r = Answers (remaining_told (budget_of budget) (preflight_by number cost)) r [] []

-- `materialize_pending`: the remainder's length is written on success
abbrev pub MaterializesIn : ℕ → List ℕ → ℕ → List ℕ → ℕ → List ℕ → List ℕ → List ℕ → List ℕ → Type 0
MaterializesIn number cost success reported r remainder remainder' budget budget' =
    let b = budget_of budget in
    ChangesUnlessRefused (materialize_told b (preflight_by number cost) (report_by success reported))
    (materialize_budget b (preflight_by number cost) (report_by success reported)) r remainder remainder' budget budget'
