use Rattle.pendlist_input.proofs.Ramp.{Filled}
use Rattle.pendlist_input.proofs.fill_body.Given as goal

abbrev pub invariant-loop-i : goal.invariant-loop-i
invariant-loop-i l = Filled l.initial.body l.body l.i
