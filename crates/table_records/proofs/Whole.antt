-- How many bodies of a record stay, where all of them are skipped or none. Assumes nothing.
use mathlib.Core.Path.{◌≡◌}
use mathlib.Core.List.{List}
use Prim.Native.Nat.{ℕ}
use lib.ListN.{get_or}
use Rattle.table_records.specs.Whole.{whole_count}

-- by what is skipped of the label
pub whole_kept : (label skipped count n : ℕ) (skip : List ℕ) → skipped ≡ get_or skip label 0 →
    n ≡ whole_count skipped count → n ≡ whole_count (get_or skip label 0) count
whole_kept label skipped count n skip read says = rw read at says
