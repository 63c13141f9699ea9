use Rattle.recorded.proofs.PartsRun.{Ran}
use Rattle.recorded.proofs.chunk.run_parts.Given as goal

abbrev pub invariant-loop : goal.invariant-loop
invariant-loop g l =
    goal.F-IsAlwaysCallable g l.run
    × Ran g.F.FnMut l.initial.run l.run (g.R.Read.remaining l.initial.reader) (g.R.Read.remaining l.reader) l.buffer l.kept
