use Rattle.export_calls.proofs.Calls.{exports_clear}
use Rattle.export_calls.proofs.clear.Goals as goal

pub returns : goal.returns
returns c = exports_clear c.clear.ensures c.number_of.ensures
