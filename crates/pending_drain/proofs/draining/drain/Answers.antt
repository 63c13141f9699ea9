use Rattle.pending_drain.proofs.Drains.{drain_handed}
use Rattle.pending_drain.proofs.draining.drain.Goals as goal

pub returns : goal.returns
returns c = drain_handed _ _ _ _ c.in_ok-header.ensures c.drain_cache.ensures
