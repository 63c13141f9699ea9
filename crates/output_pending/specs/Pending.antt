-- A queued body against the budget (document 01, numbers 7, 8 and 22).
use Rattle.std.specs.Prelude.{◌≡◌, Bool, false, cond, ◌&&◌, ◌||◌, Option, Some, None, Result, Ok, Err, [], ◌∷◌, ℕ, ltb, eqb}
use Rattle.output_preflight.specs.declared.PendingOutputPreflight.{PendingOutputPreflight}
use Rattle.output_preflight.specs.declared.Refusal.{Refusal}
use Rattle.output_budget.specs.declared.DecodedOutputBudget.{DecodedOutputBudget}
use Rattle.output_budget.specs.declared.OutputCounts.{OutputCounts}
use Rattle.output_pending.specs.declared.PendingOutputError.{PendingOutputError}
use Rattle.output_pending.specs.declared.PendingOutputError.TheVariants as Error
use Rattle.output_budget.specs.Told.{Told, done, refusal}
use Rattle.output_budget.specs.Budget.{whole_of, remaining_of, grown}

-- a cost is above two counts where it is above either
abbrev pub above : PendingOutputPreflight → OutputCounts → Bool
above cost counts =
    ltb counts.values.0 cost.field_values.0
    || ltb counts.payload_bytes.0 cost.field_payload_bytes.0

-- the decoder reports success, and the cost and the remainder of the preflight
abbrev pub agrees : PendingOutputPreflight → Option PendingOutputPreflight → Bool
agrees cost None = false
agrees cost (Some got) =
    eqb got.field_values.0 cost.field_values.0
    && eqb got.field_payload_bytes.0 cost.field_payload_bytes.0
    && eqb got.remainder_len cost.remainder_len

-- what each refusal tells
abbrev pub told_of_error : PendingOutputError → Told
told_of_error Error.Invalid = refusal 7
told_of_error Error.NeverFits = refusal 8
told_of_error Error.TemporarilyDoesNotFit = refusal 22

-- what each answer of the fit tests tells
abbrev pub told_of_fit : Result (Unit {0}) PendingOutputError → Told
told_of_fit (Ok u) = done
told_of_fit (Err e) = told_of_error e

-- what each answer of `materialize_pending` tells: the remainder's length, or a refusal
abbrev pub told_of_materialize : Result ℕ PendingOutputError → Told
told_of_materialize (Ok n) = record { number = 0; values = n ∷ [] }
told_of_materialize (Err e) = told_of_error e

-- 7: the preflight refused the body, by whatever number; 8: the cost is above the whole budget
unfoldable pub full_budget_told : DecodedOutputBudget → Result PendingOutputPreflight Refusal → Told
full_budget_told b (Err r) = refusal 7
full_budget_told b (Ok cost) = cond (above cost (whole_of b)) (refusal 8) done

-- 7 and 8 likewise, then 22: the cost is above what remains
unfoldable pub remaining_told : DecodedOutputBudget → Result PendingOutputPreflight Refusal → Told
remaining_told b (Err r) = refusal 7
remaining_told b (Ok cost) =
    cond (above cost (whole_of b)) (refusal 8)
    (cond (above cost (remaining_of b)) (refusal 22)
    done)

-- 7, 8 and 22 likewise, then 7: the decoder's report does not agree
unfoldable pub materialize_told :
    DecodedOutputBudget → Result PendingOutputPreflight Refusal → Option PendingOutputPreflight → Told
materialize_told b (Err r) report = refusal 7
materialize_told b (Ok cost) report =
    cond (above cost (whole_of b)) (refusal 8)
    (cond (above cost (remaining_of b)) (refusal 22)
    (cond (agrees cost report) (record { number = 0; values = cost.remainder_len ∷ [] })
    (refusal 7)))

-- the budget after `materialize_pending`: unless it is refused, the use has grown by the cost
unfoldable pub materialize_budget :
    DecodedOutputBudget → Result PendingOutputPreflight Refusal → Option PendingOutputPreflight → DecodedOutputBudget
materialize_budget b (Err r) report = b
materialize_budget b (Ok cost) report =
    cond (eqb (materialize_told b (Ok cost) report).number 0)
    (grown b cost.field_values cost.field_payload_bytes)
    b

-- `materialize_pending` of a body by its preflight f and the decoder's report d
pub record Materializes
    (b : DecodedOutputBudget) (f : Result PendingOutputPreflight Refusal) (d : Option PendingOutputPreflight)
    (a : Result ℕ PendingOutputError) (b' : DecodedOutputBudget) : Type 0 where
  pub answer : told_of_materialize a ≡ materialize_told b f d
  pub budget : b' ≡ materialize_budget b f d
