use Rattle.pending_flows.proofs.Questions.{bodies_few}
use Rattle.pending_calls.proofs.NoneRemoved.{records_few, records_fit, entries_below, records_inside}
use Rattle.pending_restore.proofs.Restores.{taken_back}
use Rattle.pending_restore.proofs.take_back.Goals as goal

pub overflow_add-records : goal.overflow_add-records
overflow_add-records c = record { fits = records_fit _ _ c.requires }

pub records_at-requires : goal.records_at-requires
records_at-requires c = bodies_few _ _ c.requires.legal _ c.requires.limits

pub remove-requires : goal.remove-requires
remove-requires c = let holds = c.requires in
    let from = c.records_at.ensures in
    record {
      entries_below = entries_below _ _ holds from;
      records_within = records_inside _ _ holds from;
      records_few = records_few _ _ holds;
    }

pub returns : goal.returns
returns c = taken_back c.args.header _ _ _ _ _ c.records_at.ensures c.stay_all.ensures c.set_sum.ensures c.remove.ensures
