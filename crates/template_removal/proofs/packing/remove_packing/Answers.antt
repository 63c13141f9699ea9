use mathlib.Core.Path.{◌∙◌}
use native.Mathlib.Omega.{arith}
use borrow.Author.Rules.{rules}
use Rattle.pending_flows.proofs.Questions.{bodies_few}
use Rattle.pending_calls.proofs.NoneRemoved.{records_fit, entries_below, records_inside}
use Rattle.template_removal.proofs.PackingRemoved.{places_within, packing_removed}
use Rattle.template_removal.proofs.packing.remove_packing.Goals as goal

pub records_at-from-requires : goal.records_at-from-requires
records_at-from-requires c = bodies_few _ _ c.requires.legal _ c.requires.limits

pub overflow_add-records : goal.overflow_add-records
overflow_add-records c = record { fits = records_fit _ _ c.requires }

pub sweep_packing-left-requires : goal.sweep_packing-left-requires
sweep_packing-left-requires c = let below = entries_below _ _ c.requires c.records_at-from.ensures in
    let inside = records_inside _ _ c.requires c.records_at-from.ensures in
    record {
      in_words = omega (arith, below, inside);
      in_bytes = places_within c.args.words.now c.args.bytes.now c.requires;
    }

pub take_both-requires : goal.take_both-requires
take_both-requires c = omega (
  arith,
  records_inside _ _ c.requires c.records_at-from.ensures,
  c.sweep_packing-left.auto.words,
)

pub returns : goal.returns
returns c = packing_removed _ _ c.requires _ _ c.records_at-from.ensures c.label_test-test.ensures
    c.sweep_packing-left.ensures c.take_both.ensures (search rules)
    (c.take_both.auto.words ∙ c.sweep_packing-left.auto.words)
