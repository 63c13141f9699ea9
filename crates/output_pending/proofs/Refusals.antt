-- A refused call leaves the use and the limits as they were. (The fit tests change none.) Assumes nothing.
use mathlib.Core.Path.{◌≡◌, refl}
use mathlib.Core.Bool.{Bool, true, false, cond}
use borrow.Author.Tests.{ne_eqb}
use Rattle.std.proofs.Common.{Option, Result, Ok, Err}
use Rattle.output_preflight.specs.declared.FieldValues.{FieldValues}
use Rattle.output_preflight.specs.declared.PayloadBytes.{PayloadBytes}
use Rattle.output_preflight.specs.declared.PendingOutputPreflight.{PendingOutputPreflight}
use Rattle.output_preflight.specs.declared.Refusal.{Refusal}
use Rattle.output_budget.specs.declared.DecodedOutputBudget.{DecodedOutputBudget}
use Rattle.output_budget.specs.Told.{Told, done}
use Rattle.output_budget.specs.Budget.{use_of, whole_of, passes_values, passes_payload}
use Rattle.output_budget.specs.Budget.{reserve_told, reserve_budget, rollback_told, rollback_budget}
use Rattle.output_pending.specs.Pending.{materialize_told, materialize_budget}

-- the calls that change a budget and can be refused
pub data Call : Type 0 where
  reserve : FieldValues → PayloadBytes → Call
  rollback : FieldValues → PayloadBytes → Call
  materialize : Result PendingOutputPreflight Refusal → Option PendingOutputPreflight → Call

-- what a call on a budget tells
abbrev pub told : DecodedOutputBudget → Call → Told
told b (reserve v p) = reserve_told b v p
told b (rollback v p) = rollback_told b v p
told b (materialize f d) = materialize_told b f d

-- the budget after a call
abbrev pub after : DecodedOutputBudget → Call → DecodedOutputBudget
after b (reserve v p) = reserve_budget b v p
after b (rollback v p) = rollback_budget b v p
after b (materialize f d) = materialize_budget b f d

-- two budgets with the same limits and the same use
pub record SameCounts (b b' : DecodedOutputBudget) : Type 0 where
  pub limits : whole_of b' ≡ whole_of b
  pub in_use : use_of b' ≡ use_of b

same : (b : DecodedOutputBudget) → SameCounts b b
same b = record { limits = refl; in_use = refl }

-- of the three ends of a reservation two are refused, and they keep the counts
kept_unless_done : {b b₁ b₂ : DecodedOutputBudget} (b₃ : DecodedOutputBudget) (t₁ t₂ : Told) (v p : Bool)
    → SameCounts b b₁ → SameCounts b b₂
    → ((cond v t₁ (cond p t₂ done)).number ≡ 0 → ⊥) → SameCounts b (cond v b₁ (cond p b₂ b₃))
kept_unless_done b₃ t₁ t₂ true p s₁ s₂ h = s₁
kept_unless_done b₃ t₁ t₂ false true s₁ s₂ h = s₂
kept_unless_done b₃ t₁ t₂ false false s₁ s₂ h = absurd (h refl)

-- This is the final fact, which no proof cites.
pub refused_keeps : (b : DecodedOutputBudget) (c : Call) → ((told b c).number ≡ 0 → ⊥) → SameCounts b (after b c)
unfolding reserve_told reserve_budget rollback_budget materialize_budget
refused_keeps b (reserve v p) h =
    kept_unless_done _ _ _ (passes_values b v) (passes_payload b p)
    (record { limits = refl; in_use = refl })
    (record { limits = refl; in_use = refl })
    h
refused_keeps b (rollback v p) h = rw (ne_eqb (rollback_told b v p).number 0 h) (same b)
refused_keeps b (materialize (Err r) d) h = same b
refused_keeps b (materialize (Ok cost) d) h =
    rw (ne_eqb (materialize_told b (Ok cost) d).number 0 h) (same b)
