-- The two passes of closing, one after the other. Assumes nothing.
use mathlib.Core.Path.{◌≡◌, sym, ◌∙◌}
use mathlib.Core.List.{List}
use Prim.Native.Nat.{ℕ, ◌≤◌}
use native.Mathlib.Omega.{arith}
use lib.ListN.{length, take}
use lib.Seq.{length-take-le}
use Rattle.table.specs.Table.{index_from}
use Rattle.table_records.specs.Close.{Closes}
use Rattle.table_records.specs.Passes.{ClosesRecords, ClosesIndex}
use Rattle.table_records.proofs.Frames.{index_same}

-- the positions of k records are k
pub prefix_long : (k : ℕ) (ps ps₀ : List ℕ) → length ps ≡ length ps₀ → k ≤ length ps₀ → k ≡ length (take k ps)
prefix_long k ps ps₀ e h = sym (length-take-le k ps (omega arith))

pub passes_close : (from records : ℕ) (kept w w' ps w'' : List ℕ) (remain : ℕ) →
    ClosesRecords from records kept w w' ps remain → ClosesIndex from records (take records ps) w' w'' →
    Closes from records kept w w'' remain
passes_close from records kept w w' ps w'' remain a b =
    let old : index_from w' from records ≡ index_from w from records =
    index_same w' w from records (λ i q h e. rw e (a.same i)) in
    record {
      few = a.few;
      records = b.same remain ∙ a.records;
      index = rw (a.noted, old) at b.index;
      head = b.head ∙ a.head;
      tail = b.tail ∙ a.tail;
    }
