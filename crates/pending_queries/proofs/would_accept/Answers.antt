use Rattle.pending_queries.proofs.Answers.{asks, told}
use Rattle.pending_queries.proofs.would_accept.Goals as goal

pub returns : goal.returns
returns c = asks (told _ _ _ _ _ c.examine.ensures c.in_ok-seen.was c.limits_at.ensures c.accepts.ensures)
