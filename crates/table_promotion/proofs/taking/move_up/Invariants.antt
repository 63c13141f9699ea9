use Prim.Native.Nat.{◌-◌}
use Rattle.table_records.proofs.MovesUp.{MovingUp}
use Rattle.table_promotion.proofs.taking.move_up.Given as goal

abbrev pub invariant-loop-i : goal.invariant-loop-i
invariant-loop-i l = MovingUp l.from l.records l.at l.initial.words l.words l.i (l.records - 1 - l.i)
