use Rattle.pending_calls.proofs.Clearings.{clear_done}
use Rattle.pending_calls.proofs.clearing.clear.Goals as goal

pub returns : goal.returns
returns c = clear_done _ _ c.in_ok-header.ensures c.clear_cache.ensures
