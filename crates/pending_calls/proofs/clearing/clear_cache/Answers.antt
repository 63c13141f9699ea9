use Rattle.pending_flows.proofs.Questions.{header_within}
use Rattle.pending_calls.proofs.Clearings.{header_emptied}
use Rattle.pending_calls.proofs.clearing.clear_cache.Goals as goal

pub write-requires : goal.write-requires
write-requires c = header_within _ _ c.requires.legal

pub returns : goal.returns
returns c = header_emptied _ _ c.requires _ c.write.ensures
