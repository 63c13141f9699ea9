-- Taking the record of a label off, where there is one.
use Rattle.std.specs.Prelude.{◌≡◌, List, ℕ, ◌-◌, ◌≤◌, ◌<◌}
use Rattle.table.specs.Table.{records_from}
use Rattle.table_records.specs.Take.{place_of, TakesOff}
use Rattle.table_promotion.specs.declared.taking.Taken.{Taken}

-- Of k records from word p on, none has the label, and no word changes; or the first that has it is taken off.
pub record TakesLabel (label p k : ℕ) (w w' : List ℕ) (r : Taken) : Type 0 where
  pub none : k ≤ place_of label (records_from w p k) → (w' ≡ w) × (r.records ≡ k) × (r.bodies ≡ 0)
  pub one : place_of label (records_from w p k) < k →
      TakesOff p k (place_of label (records_from w p k)) w w' r.bodies × (r.records ≡ k - 1)
