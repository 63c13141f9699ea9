use borrow.Author.Rules.{rules}
use Rattle.pending_flows.proofs.Questions.{bodies_few}
use Rattle.pending_calls.proofs.NoneRemoved.{records_few, records_fit, entries_below, records_inside}
use Rattle.planned_removal.proofs.PlannedRemoval.{planned_whole, whole_planned}
use Rattle.planned_removal.proofs.remove_skipped.Goals as goal

pub remove_whole-requires-clause-skip_value : goal.remove_whole-requires-clause-skip_value
remove_whole-requires-clause-skip_value c = search (planned_whole, rules)

pub returns-then-plan : goal.returns-then-plan
returns-then-plan c = whole_planned _ _ c.requires.holds.legal _ _ _ c.requires.none_expired c.if-plan.true
    c.skip_planned.ensures (rw c.stay_all.ensures at c.remove_whole.ensures)

pub overflow_add-records : goal.overflow_add-records
overflow_add-records c = record { fits = search (records_fit, rules) }

pub records_at-requires : goal.records_at-requires
records_at-requires c = search (bodies_few, rules)

pub remove-requires : goal.remove-requires
remove-requires c = record {
  entries_below = search (entries_below, rules);
  records_within = search (records_inside, rules);
  records_few = search (records_few, rules);
}
