-- A removal that packs the bodies in the same pass.
use Rattle.std.specs.Prelude.{List, ℕ}
use Rattle.table_entries.specs.declared.StayTest.{StayTest}
use Rattle.table_entries.specs.Pack.{Packs}
use Rattle.pending_calls.specs.declared.removal.Removed.{Removed}
use Rattle.pending_calls.specs.Removal.{RemovesFrom}

-- what a removal alone would leave, with its entries and their bodies packed: they end where their lengths add up to
pub record RemovesPacking (q : StayTest) (apart : ℕ) (skip w b w' b' : List ℕ) (r : Removed) : Type 0 where
  -- the words as the removal alone leaves them
  pub unpacked : List ℕ
  pub removes : RemovesFrom q apart skip w unpacked r
  pub packs : Packs r.entries unpacked b w' b' r.bytes
