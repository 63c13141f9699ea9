-- A budget's words, which read back are that budget. Assumes nothing.
use mathlib.Core.Path.{◌≡◌, refl}
use Prim.Native.Nat.{ℕ}
use Rattle.std.proofs.Common.{Option, Some, None, get_or}
use Rattle.output_budget.specs.declared.DecodedOutputBudget.{DecodedOutputBudget}
use Rattle.output_budget.specs.declared.DecodedOutputLimit.{DecodedOutputLimit}
use Rattle.output_budget.specs.declared.DecodedOutputLimit.TheVariants as Limit
use Rattle.output_budget.specs.declared.OutputBudgetExceeded.{OutputBudgetExceeded}
use Rattle.output_budget.specs.Budget.{limit_of}
use Rattle.budget_words.specs.Words.{excess_of, exceeded_of, budget_of, words_of, words_of_exceeded}

limit_back : (limit : DecodedOutputLimit) (configured attempted : ℕ)
    → exceeded_of (limit_of limit) configured attempted ≡ excess_of limit configured attempted
limit_back Limit.FieldValues configured attempted = refl
limit_back Limit.FieldPayloadBytes configured attempted = refl

excess_back : (x : Option OutputBudgetExceeded)
    → exceeded_of (get_or (words_of_exceeded x) 0 0) (get_or (words_of_exceeded x) 1 0)
    (get_or (words_of_exceeded x) 2 0) ≡ x
excess_back None = refl
excess_back (Some e) = limit_back e.limit e.configured e.attempted

-- A budget that was written as words is read back as it was. A final fact, which no proof cites.
pub read_back : (b : DecodedOutputBudget) → budget_of (words_of b) ≡ b
unfolding budget_of words_of
read_back b = λ i. record {
  max_values = b.max_values;
  max_payload_bytes = b.max_payload_bytes;
  used_values = b.used_values;
  used_payload_bytes = b.used_payload_bytes;
  exceeded = excess_back b.exceeded i;
}
