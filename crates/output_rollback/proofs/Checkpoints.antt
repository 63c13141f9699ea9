-- A rollback to a checkpoint restores the use exactly, where only reservations were made since. They may all have
-- succeeded; a refused one keeps the use, and what it recorded goes with the rollback. Assumes nothing.
use mathlib.Core.Path.{◌≡◌, refl, ◌∙◌}
use mathlib.Core.Bool.{Bool, true, false, cond}
use mathlib.Core.List.{List, [], ◌∷◌}
use Prim.Native.Nat.{◌≤◌}
use native.Mathlib.Omega.{arith}
use borrow.Author.Tests.{le-ltb}
use Rattle.output_budget.specs.declared.DecodedOutputBudget.{DecodedOutputBudget}
use Rattle.std.proofs.Common.{None}
use Rattle.output_budget.specs.declared.OutputBudgetExceeded.{OutputBudgetExceeded}
use Rattle.output_budget.specs.declared.OutputCounts.{OutputCounts}
use Rattle.output_budget.specs.Told.{done}
use Rattle.output_budget.specs.Budget.{with_use, used_values, used_payload, use_of, whole_of, grown, recorded}
use Rattle.output_budget.specs.Budget.{passes_values, passes_payload, reserve_budget, rollback_told, rollback_budget}

-- the budget after these reservations, the first one first
unfoldable pub after_all : DecodedOutputBudget → List OutputCounts → DecodedOutputBudget
after_all b [] = b
after_all b (c ∷ cs) = after_all (reserve_budget b c.values c.payload_bytes) cs

-- the same limits, and no less in use
record Grown (b b' : DecodedOutputBudget) : Type 0 where
  limits : whole_of b' ≡ whole_of b
  values : used_values b ≤ used_values b'
  payload : used_payload b ≤ used_payload b'

reserve_grows : (b : DecodedOutputBudget) (c : OutputCounts)
    → Grown b (reserve_budget b c.values c.payload_bytes)
unfolding reserve_budget
reserve_grows b c = by_end (passes_values b c.values) (passes_payload b c.payload_bytes) _ _
  where
    by_end : (v p : Bool) (e d : OutputBudgetExceeded)
        → Grown b (cond v (recorded b e) (cond p (recorded b d) (grown b c.values c.payload_bytes)))
    by_end true p e d = record { limits = refl; values = omega arith; payload = omega arith }
    by_end false true e d = record { limits = refl; values = omega arith; payload = omega arith }
    by_end false false e d = record { limits = refl; values = omega arith; payload = omega arith }

all_grow : (b : DecodedOutputBudget) (cs : List OutputCounts) → Grown b (after_all b cs)
unfolding after_all
all_grow b [] = record { limits = refl; values = omega arith; payload = omega arith }
all_grow b (c ∷ cs) =
    let one = reserve_grows b c in
    let more = all_grow (reserve_budget b c.values c.payload_bytes) cs in
    record { limits = more.limits ∙ one.limits; values = omega arith; payload = omega arith }

-- The checkpoint is the use of b, and what is in use after the rollback to it. Final facts, which no other file cites.
module _ (b : DecodedOutputBudget) (cs : List OutputCounts) where
  pub rollback_is_done : rollback_told (after_all b cs) (use_of b).values (use_of b).payload_bytes ≡ done
  unfolding rollback_told
  rollback_is_done = let g = all_grow b cs in rw (le-ltb _ _ g.values, le-ltb _ _ g.payload)

  pub rollback_restores : rollback_budget (after_all b cs) (use_of b).values (use_of b).payload_bytes
      ≡ with_use b b.used_values b.used_payload_bytes None
  unfolding rollback_budget
  rollback_restores = rw rollback_is_done (λ i. record {
    max_values = ((all_grow b cs).limits i).values;
    max_payload_bytes = ((all_grow b cs).limits i).payload_bytes;
    used_values = b.used_values;
    used_payload_bytes = b.used_payload_bytes;
    exceeded = None;
  })
