-- A cost that fits what remains, added to the use. Assumes nothing.
use mathlib.Core.Path.{◌≡◌}
use mathlib.Core.Bool.{false}
use Prim.Native.Nat.{ℕ, ◌+◌, ◌-◌, ◌≤◌, max}
use native.Mathlib.Omega.{arith}
use lib.Dec.{ltb}
use borrow.Author.Tests.{ltb-false}
use Rattle.std.proofs.lemmas.Bool.{or_parts}
use Rattle.output_preflight.specs.declared.PendingOutputPreflight.{PendingOutputPreflight}
use Rattle.output_budget.specs.declared.DecodedOutputBudget.{DecodedOutputBudget}
use Rattle.output_budget.specs.Budget.{remaining_of, SumsWithin}
use Rattle.output_pending.specs.Pending.{above}

within_left : (most used more : ℕ) → ltb (most - used) more ≡ false → used + more ≤ max most used
within_left most used more e = omega (arith, ltb-false (most - used) more e)

-- a cost that is not above what remains
pub left_within : (b : DecodedOutputBudget) (cost : PendingOutputPreflight) → above cost (remaining_of b) ≡ false
    → SumsWithin b cost.field_values cost.field_payload_bytes
left_within b cost h =
    let n = or_parts _ _ h in
    record { values = within_left _ _ _ n.0; payload = within_left _ _ _ n.1 }
