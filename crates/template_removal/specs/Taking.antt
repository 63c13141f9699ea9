-- Taking two records off, where they are: the end of a removal.
use Rattle.std.specs.Prelude.{◌≡◌, List, ℕ}
use Rattle.table_entries.specs.declared.sweeps.Kept.{Kept}
use Rattle.table_promotion.specs.declared.taking.Taken.{Taken}
use Rattle.table_promotion.specs.Taking.{TakesLabel}
use Rattle.pending_calls.specs.declared.removal.Removed.{Removed}

-- The record of one label is taken off, and then that of the label `apart`. r tells the records that are left and the
-- bodies of `apart`, beside the figures of a sweep.
pub record TakesBoth (label apart p k : ℕ) (left : Kept) (w w' : List ℕ) (r : Removed) : Type 0 where
  pub between : List ℕ
  pub first : Taken
  pub second : Taken
  pub takes_first : TakesLabel label p k w between first
  pub takes_second : TakesLabel apart p first.records between w' second
  pub told : r
      ≡ record { entries = left.entries; bytes = left.bytes; records = second.records; apart = second.bodies }
