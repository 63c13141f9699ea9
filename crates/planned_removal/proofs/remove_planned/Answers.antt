use borrow.Author.Rules.{rules}
use Rattle.planned_removal.proofs.PlannedRemoval.{none_planned}
use Rattle.planned_removal.proofs.remove_planned.Goals as goal

pub returns-then-plan : goal.returns-then-plan
returns-then-plan c = search (none_planned, rules)
