use Prim.Native.Nat.{◌+◌, ◌-◌, ◌*◌}
use Rattle.config.specs.Limits.{entry_words}
use Rattle.table.specs.Layout.{entries_at}
use Rattle.table.specs.Table.{entries_from}
use Rattle.table_entries.specs.Stays.{stays}
use Rattle.table_entries.proofs.KeepPass.{KeptSoFar}
use Rattle.entry_sweeps.specs.KeptBy.{kept_by}
use Rattle.entry_sweeps.proofs.stay_sweeps.sweep_staying.Given as goal

abbrev pub invariant-loop-i : goal.invariant-loop-i
invariant-loop-i l = KeptSoFar (kept_by (stays l.test)) (kept_by (stays l.test)
    (entries_from l.initial.words entries_at l.entries)) l.entries l.initial.words l.words
    l.kept l.bytes (l.entries - l.i) (entries_at + entry_words * l.i) l.to
