-- The decoded-output budget (document 01, numbers 23, 24 and 26). `.0` of a count is its number.
use Rattle.std.specs.Prelude.{◌≡◌, Bool, cond, ◌||◌, List, [], ◌∷◌, Option, Some, None, is_some, Result, Ok, Err}
use Rattle.std.specs.Prelude.{ℕ, ◌+◌, ◌-◌, ◌≤◌, ◌^◌, min, max, ltb, eqb}
use Rattle.output_preflight.specs.declared.FieldValues.{FieldValues}
use Rattle.output_preflight.specs.declared.PayloadBytes.{PayloadBytes}
use Rattle.output_budget.specs.declared.DecodedOutputLimit.{DecodedOutputLimit}
use Rattle.output_budget.specs.declared.DecodedOutputLimit.TheVariants as Limit
use Rattle.output_budget.specs.declared.OutputBudgetExceeded.{OutputBudgetExceeded}
use Rattle.output_budget.specs.declared.DecodedOutputBudget.{DecodedOutputBudget}
use Rattle.output_budget.specs.declared.OutputCounts.{OutputCounts}
use Rattle.output_budget.specs.declared.AboveUse.{AboveUse}
use Rattle.output_budget.specs.Told.{Told, done, refusal}

-- a budget as it opens: nothing used, nothing recorded
abbrev pub opened : FieldValues → PayloadBytes → DecodedOutputBudget
opened v p = record {
  max_values = v;
  max_payload_bytes = p;
  used_values = record { 0 = 0 };
  used_payload_bytes = record { 0 = 0 };
  exceeded = None;
}

-- the same limits, with this use and this record
abbrev pub with_use :
    DecodedOutputBudget → FieldValues → PayloadBytes → Option OutputBudgetExceeded → DecodedOutputBudget
with_use b v p x = record {
  max_values = b.max_values;
  max_payload_bytes = b.max_payload_bytes;
  used_values = v;
  used_payload_bytes = p;
  exceeded = x;
}

-- the limit of the field values
abbrev pub max_values : DecodedOutputBudget → ℕ
max_values b = b.max_values.0

-- the limit of the payload bytes
abbrev pub max_payload : DecodedOutputBudget → ℕ
max_payload b = b.max_payload_bytes.0

-- the field values in use
abbrev pub used_values : DecodedOutputBudget → ℕ
used_values b = b.used_values.0

-- the payload bytes in use
abbrev pub used_payload : DecodedOutputBudget → ℕ
used_payload b = b.used_payload_bytes.0

-- document 01's "use": both counts in use
abbrev pub use_of : DecodedOutputBudget → OutputCounts
use_of b = record { values = b.used_values; payload_bytes = b.used_payload_bytes }

-- document 01's "whole budget": both limits
abbrev pub whole_of : DecodedOutputBudget → OutputCounts
whole_of b = record { values = b.max_values; payload_bytes = b.max_payload_bytes }

-- document 01's "what remains" in each count: the limit less the use, or 0 where the use is above the limit
abbrev pub remaining_of : DecodedOutputBudget → OutputCounts
remaining_of b = record {
  values = record { 0 = max_values b - used_values b };
  payload_bytes = record { 0 = max_payload b - used_payload b };
}

-- the use grown by these counts, each by its own
abbrev pub grown : DecodedOutputBudget → FieldValues → PayloadBytes → DecodedOutputBudget
grown b v p =
    with_use b (record { 0 = used_values b + v.0 }) (record { 0 = used_payload b + p.0 }) b.exceeded

-- what the callers of `grow` have tested: each sum is at most the limit, or the use where that is above
pub record SumsWithin (b : DecodedOutputBudget) (v : FieldValues) (p : PayloadBytes) : Type 0 where
  pub values : used_values b + v.0 ≤ max (max_values b) (used_values b)
  pub payload : used_payload b + p.0 ≤ max (max_payload b) (used_payload b)

-- the number of passing a limit
abbrev pub number_of : DecodedOutputLimit → ℕ
number_of Limit.FieldValues = 23
number_of Limit.FieldPayloadBytes = 24

-- the limit as a value of an answer
abbrev pub limit_of : DecodedOutputLimit → ℕ
limit_of Limit.FieldValues = 1
limit_of Limit.FieldPayloadBytes = 2

-- the values of an excess: the limit, the configured figure and the attempted sum
abbrev pub values_of_excess : OutputBudgetExceeded → List ℕ
values_of_excess e = limit_of e.limit ∷ e.configured ∷ e.attempted ∷ []

-- a reservation that is refused tells the number of the limit, and its excess
abbrev pub told_of_excess : OutputBudgetExceeded → Told
told_of_excess e = record { number = number_of e.limit; values = values_of_excess e }

-- what each answer of `take_exceeded` tells: it is always done, and has no values where none is recorded
abbrev pub told_of_exceeded : Option OutputBudgetExceeded → Told
told_of_exceeded None = done
told_of_exceeded (Some e) = record { number = 0; values = values_of_excess e }

-- what each answer of `reserve` tells
abbrev pub told_of_reserve : Result (Unit {0}) OutputBudgetExceeded → Told
told_of_reserve (Ok u) = done
told_of_reserve (Err e) = told_of_excess e

-- what each answer of `rollback` tells
abbrev pub told_of_rollback : Result (Unit {0}) AboveUse → Told
told_of_rollback (Ok u) = done
told_of_rollback (Err e) = refusal 26

-- whether an excess is recorded
abbrev pub is_recorded : Option OutputBudgetExceeded → Bool
is_recorded x = is_some x

-- document 01: the first excess stays recorded
abbrev pub first_excess : Option OutputBudgetExceeded → OutputBudgetExceeded → Option OutputBudgetExceeded
first_excess None e = Some e
first_excess (Some d) e = Some d

-- a refused reservation leaves the use unchanged, and records its excess unless one is recorded
abbrev pub recorded : DecodedOutputBudget → OutputBudgetExceeded → DecodedOutputBudget
recorded b e = with_use b b.used_values b.used_payload_bytes (first_excess b.exceeded e)

-- document 01's "attempted sum": 2^64 - 1 on overflow
abbrev pub attempted_sum : ℕ → ℕ → ℕ
attempted_sum used more = min (used + more) (2 ^ 64 - 1)

-- `reserve` would pass the value limit
abbrev pub passes_values : DecodedOutputBudget → FieldValues → Bool
passes_values b v = ltb (max_values b) (used_values b + v.0)

-- `reserve` would pass the payload limit
abbrev pub passes_payload : DecodedOutputBudget → PayloadBytes → Bool
passes_payload b p = ltb (max_payload b) (used_payload b + p.0)

-- an excess of the value limit, by its attempted sum
abbrev pub values_excess : DecodedOutputBudget → ℕ → OutputBudgetExceeded
values_excess b sum = record { limit = Limit.FieldValues; configured = max_values b; attempted = sum }

-- an excess of the payload limit, by its attempted sum
abbrev pub payload_excess : DecodedOutputBudget → ℕ → OutputBudgetExceeded
payload_excess b sum = record { limit = Limit.FieldPayloadBytes; configured = max_payload b; attempted = sum }

-- document 01's 23 and 24, values before payload
unfoldable pub reserve_told : DecodedOutputBudget → FieldValues → PayloadBytes → Told
reserve_told b v p =
    cond (passes_values b v)
    (record { number = 23; values = 1 ∷ max_values b ∷ attempted_sum (used_values b) v.0 ∷ [] })
    (cond (passes_payload b p)
    (record { number = 24; values = 2 ∷ max_payload b ∷ attempted_sum (used_payload b) p.0 ∷ [] })
    done)

-- the budget after `reserve`
unfoldable pub reserve_budget : DecodedOutputBudget → FieldValues → PayloadBytes → DecodedOutputBudget
reserve_budget b v p =
    cond (passes_values b v) (recorded b (values_excess b (attempted_sum (used_values b) v.0)))
    (cond (passes_payload b p) (recorded b (payload_excess b (attempted_sum (used_payload b) p.0)))
    (grown b v p))

-- document 01's 26: rollback to a count above the one in use
unfoldable pub rollback_told : DecodedOutputBudget → FieldValues → PayloadBytes → Told
rollback_told b v p =
    cond (ltb (used_values b) v.0 || ltb (used_payload b) p.0) (refusal 26) done

-- the budget after `rollback`: unless it is refused, these counts are in use and nothing is recorded
unfoldable pub rollback_budget : DecodedOutputBudget → FieldValues → PayloadBytes → DecodedOutputBudget
rollback_budget b v p = cond (eqb (rollback_told b v p).number 0) (with_use b v p None) b

-- `reserve` of v field values and p payload bytes
pub record Reserves
    (b : DecodedOutputBudget) (v : FieldValues) (p : PayloadBytes) (a : Result (Unit {0}) OutputBudgetExceeded)
    (b' : DecodedOutputBudget) : Type 0 where
  pub answer : told_of_reserve a ≡ reserve_told b v p
  pub budget : b' ≡ reserve_budget b v p

-- `rollback` to v field values and p payload bytes
pub record RollsBack
    (b : DecodedOutputBudget) (v : FieldValues) (p : PayloadBytes) (a : Result (Unit {0}) AboveUse)
    (b' : DecodedOutputBudget) : Type 0 where
  pub answer : told_of_rollback a ≡ rollback_told b v p
  pub budget : b' ≡ rollback_budget b v p

-- `take_exceeded`: the recorded excess is told, and is recorded no longer
pub record Takes (b : DecodedOutputBudget) (a : Option OutputBudgetExceeded) (b' : DecodedOutputBudget) : Type 0 where
  pub answer : told_of_exceeded a ≡ told_of_exceeded b.exceeded
  pub budget : b' ≡ with_use b b.used_values b.used_payload_bytes None
