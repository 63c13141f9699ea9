-- Room for what the labels are allowed while a table is tested.
use Rattle.std.specs.Prelude.{◌≡◌, true, List, ℕ, ◌≤◌, length, replicate}
use Rattle.table.specs.Table.{records}
use Rattle.table_passes.specs.Passes.{labels_below}

-- a number for each label from 0 on: none is allowed an entry yet, and the records' labels, if they are labels, are
-- among them
pub record RoomForAllowances (w allow : List ℕ) : Type 0 where
  pub cleared : allow ≡ replicate (length allow) 0
  pub within : length allow ≤ 1024
  pub enough : labels_below 1024 (records w) ≡ true → labels_below (length allow) (records w) ≡ true
