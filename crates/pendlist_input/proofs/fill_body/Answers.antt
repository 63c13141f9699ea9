use Rattle.std.proofs.Common.{arith}
use Rattle.pendlist_input.proofs.Ramp.{one_filled}
use Rattle.pendlist_input.proofs.fill_body.Goals as goal

pub loop-i-preserved : goal.loop-i-preserved
loop-i-preserved c = one_filled c.loop-i.invariant (omega arith)
