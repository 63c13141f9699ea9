use mathlib.Core.Path.{◌∙◌}
use native.Mathlib.Omega.{arith}
use Rattle.pending_flows.proofs.Questions.{bodies_few}
use Rattle.pending_calls.proofs.NoneRemoved.{records_fit, entries_below, records_inside}
use Rattle.template_removal.proofs.TemplateRemoved.{template_removed}
use Rattle.template_removal.proofs.remove_template.Goals as goal

pub records_at-from-requires : goal.records_at-from-requires
records_at-from-requires c = bodies_few _ _ c.requires.legal _ c.requires.limits

pub overflow_add-records : goal.overflow_add-records
overflow_add-records c = record { fits = records_fit _ _ c.requires }

pub sweep_staying-left-requires : goal.sweep_staying-left-requires
sweep_staying-left-requires c = omega (
  arith,
  entries_below _ _ c.requires c.records_at-from.ensures,
  records_inside _ _ c.requires c.records_at-from.ensures,
)

pub take_both-requires : goal.take_both-requires
take_both-requires c = omega (
  arith,
  records_inside _ _ c.requires c.records_at-from.ensures,
  c.sweep_staying-left.auto.words,
)

pub returns : goal.returns
returns c = template_removed _ _ c.requires _ _ c.label_test-test.ensures c.records_at-from.ensures
    c.take_both.ensures (c.take_both.auto.words ∙ c.sweep_staying-left.auto.words) c.sweep_staying-left.ensures
