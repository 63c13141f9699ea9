use borrow.Author.Rules.{rules}
use Rattle.pending_flows.proofs.HeldRows.{rows_held}
use Rattle.planned_removal.proofs.AloneGoing.{room_alone}
use Rattle.planned_removal.proofs.alone_label.Goals as goal

pub returns-then-plan-eq0 : goal.returns-then-plan-eq0
returns-then-plan-eq0 c = search (room_alone, rules)

pub templates-requires : goal.templates-requires
templates-requires c = search (rows_held, rules)
