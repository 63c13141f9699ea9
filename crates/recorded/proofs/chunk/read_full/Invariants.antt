use Rattle.std.proofs.Common.{length, ◌-◌}
use Rattle.recorded.proofs.BytesTaken.{Taken}
use Rattle.recorded.proofs.chunk.read_full.Given as goal

abbrev pub invariant-loop-done : goal.invariant-loop-done
invariant-loop-done g l =
    Taken (g.R.Read.remaining l.initial.reader) (g.R.Read.remaining l.reader) (length l.initial.buffer) l.buffer l.done

abbrev pub decreases-loop-done : goal.decreases-loop-done
decreases-loop-done g l = length l.initial.buffer - l.done
