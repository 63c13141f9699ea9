use Rattle.pending_flows.proofs.Questions.{bodies_few}
use Rattle.pending_calls.proofs.NoneRemoved.{records_fit, records_inside, none_removed}
use Rattle.pending_calls.proofs.removal.remove_none.Goals as goal

pub records_at-from-requires : goal.records_at-from-requires
records_at-from-requires c = bodies_few _ _ c.requires.header_value.legal _ c.requires.header_value.limits

pub overflow_add-records : goal.overflow_add-records
overflow_add-records c = record { fits = records_fit _ _ c.requires.header_value }

pub take_record-taken-requires : goal.take_record-taken-requires
take_record-taken-requires c = records_inside _ _ c.requires.header_value c.records_at-from.ensures

pub returns : goal.returns
returns c = none_removed _ _ c.requires.header_value c.records_at-from.ensures c.requires.chance_value _
    (rw c.label_number.ensures at c.take_record-taken.ensures) c.take_record-taken.auto.words
