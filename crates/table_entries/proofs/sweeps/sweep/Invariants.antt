use Rattle.std.proofs.Common.{◌+◌, ◌-◌, ◌*◌}
use Rattle.config.specs.Limits.{entry_words}
use Rattle.table.specs.Layout.{entries_at}
use Rattle.table.specs.Table.{entries_from}
use Rattle.table_entries.specs.Sweep.{swept}
use Rattle.table_entries.proofs.KeepPass.{KeptSoFar}
use Rattle.table_entries.proofs.sweeps.sweep.Given as goal

abbrev pub invariant-loop-i : goal.invariant-loop-i
invariant-loop-i l = KeptSoFar (swept l.test l.skip)
    (swept l.test l.initial.skip (entries_from l.initial.words entries_at l.entries)) l.entries
    l.initial.words l.words l.kept l.bytes (l.entries - l.i) (entries_at + entry_words * l.i)
    (entries_at + entry_words * l.kept)
