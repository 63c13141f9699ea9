use Rattle.pending_flows.proofs.HeldRows.{rows_held}
use Rattle.pending_restore.proofs.Chances.{chance_found}
use Rattle.pending_restore.proofs.find_chance.Goals as goal

pub templates-requires : goal.templates-requires
templates-requires c = rows_held _ _ c.requires.0

pub returns : goal.returns
returns c = chance_found _ _ _ _ c.requires.0 c.requires.1 c.templates.ensures.handed c.sought.ensures
