use mathlib.Core.Path.{◌∙◌}
use native.Mathlib.Omega.{arith}
use Rattle.pending_flows.proofs.Questions.{bodies_few}
use Rattle.pending_calls.proofs.NoneRemoved.{records_fit, entries_below, records_inside}
use Rattle.template_removal.proofs.ExpiredRemoved.{went_fits, went_of_label, expired_removed}
use Rattle.template_removal.proofs.expired.remove_expired_of.Goals as goal

pub records_at-from-requires : goal.records_at-from-requires
records_at-from-requires c = bodies_few _ _ c.requires.legal _ c.requires.limits

pub overflow_add-records : goal.overflow_add-records
overflow_add-records c = record { fits = records_fit _ _ c.requires }

pub sweep_staying-left-requires : goal.sweep_staying-left-requires
sweep_staying-left-requires c = omega (
  arith,
  entries_below _ _ c.requires c.records_at-from.ensures,
  records_inside _ _ c.requires c.records_at-from.ensures,
)

pub take_record-taken-requires : goal.take_record-taken-requires
take_record-taken-requires c = omega (
  arith,
  records_inside _ _ c.requires c.records_at-from.ensures,
  c.sweep_staying-left.auto.words,
)

pub overflow_cast-went : goal.overflow_cast-went
overflow_cast-went c = record {
  fits = went_fits _ _ c.requires _ _ c.records_at-from.ensures c.label_test-test.ensures
      c.sweep_staying-left.ensures;
}

pub overflow_sub-rest : goal.overflow_sub-rest
overflow_sub-rest c = went_of_label _ _ c.requires _ _ c.records_at-from.ensures c.label_test-test.ensures
    c.sweep_staying-left.ensures c.take_record-taken.ensures

pub returns : goal.returns
returns c = expired_removed _ _ c.requires _ _ c.records_at-from.ensures c.label_test-test.ensures
    c.sweep_staying-left.ensures c.take_record-taken.ensures
    (c.take_record-taken.auto.words ∙ c.sweep_staying-left.auto.words)
