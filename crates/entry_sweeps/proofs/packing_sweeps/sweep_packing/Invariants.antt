use Prim.Native.Nat.{◌+◌, ◌-◌, ◌*◌}
use Rattle.config.specs.Limits.{entry_words}
use Rattle.table.specs.Layout.{entries_at}
use Rattle.table.specs.Table.{entries_from}
use Rattle.table_entries.specs.Stays.{stays}
use Rattle.table_entries.proofs.PackPass.{PackedSoFar}
use Rattle.entry_sweeps.specs.KeptBy.{kept_by}
use Rattle.entry_sweeps.proofs.packing_sweeps.sweep_packing.Given as goal

abbrev pub invariant-loop-i : goal.invariant-loop-i
invariant-loop-i l = PackedSoFar (kept_by (stays l.test)) (kept_by (stays l.test)
    (entries_from l.initial.words entries_at l.entries)) l.entries l.initial.words l.initial.bytes
    l.words l.bytes l.run l.kept (l.entries - l.i) (entries_at + entry_words * l.i)
    (entries_at + entry_words * l.kept)
