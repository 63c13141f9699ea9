use Prim.Native.Nat.{◌+◌, ◌-◌, ◌*◌}
use Rattle.config.specs.Limits.{record_words}
use Rattle.table_records.proofs.ClosesRecords.{Closing}
use Rattle.table_closing.proofs.close_records.Given as goal

abbrev pub invariant-loop-i : goal.invariant-loop-i
invariant-loop-i l = Closing l.from l.records l.kept l.initial.words l.initial.positions l.words l.positions
    l.remain l.i (l.records - l.i) (l.from + record_words * l.i)
