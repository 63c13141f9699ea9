use mathlib.Core.Path.{◌≡◌, ◌∙◌}
use Rattle.table.specs.Layout.{entries_at, records_at}
use Rattle.table.specs.Table.{entries_from, records_from}
use Rattle.table.specs.Reads.{label_of, label_or_none, live_figures}
use Rattle.table.proofs.Lookups.{bodies_told}
use Rattle.pending_flows.proofs.Questions.{bodies_few}
use Rattle.pending_drain.specs.Handing.{HandsOut}
use Rattle.pending_flows.proofs.HeldRows.{rows_held}
use Rattle.pending_drain.proofs.Drains.{Settling, hand_ready, settling, drain_done}
use Rattle.pending_drain.proofs.draining.drain_cache.Goals as goal
use Rattle.pending_drain.proofs.draining.drain_cache.Goals.{After-label_of-label, After-live_figures-live}
use Rattle.pending_drain.proofs.draining.drain_cache.Goals.{After-hand_out-chance}

pub records_at-from-requires : goal.records_at-from-requires
records_at-from-requires c = bodies_few _ _ c.requires.legal _ c.requires.limits

pub templates-requires : goal.templates-requires
templates-requires c = rows_held _ _ c.requires

pub entries-known-requires : goal.entries-known-requires
entries-known-requires c = rows_held _ _ c.requires

-- the label that was read
labelled : (c : After-label_of-label) → c.label_of-label.result
    ≡ label_of c.args.id (records_from c.args.words.now (records_at c.args.header.limits)
    c.args.header.figures.templates)
labelled c = rw c.templates.ensures.held at c.label_of-label.ensures

-- its live bodies
live_read : (c : After-live_figures-live) → c.live_figures-live.result
    ≡ live_figures c.args.header.limits.ttl c.args.clock (label_or_none c.label_of-label.result)
    (entries_from c.args.words.now entries_at c.args.header.figures.entries)
live_read c = rw (c.entries-known.ensures.entries, c.label_number-number.ensures) at c.live_figures-live.ensures

pub take_label-removed-requires : goal.take_label-removed-requires
take_label-removed-requires c = record {
  header_value = c.requires;
  label_value = labelled (goal.at.take_label-removed-requires c).After-label_of-label;
  live_value = bodies_told _ _ _ _ (live_read (goal.at.take_label-removed-requires c).After-live_figures-live);
}

pub hand_out-chance-requires : goal.hand_out-chance-requires
hand_out-chance-requires c = let ready = hand_ready _ c.args.bytes.now _ _ c.requires
    (labelled (goal.at.hand_out-chance-requires c).After-label_of-label) c.take_label-removed.ensures in
    rw c.records_at-from.ensures (record { records_in_bounds = ready.0; records_value = ready.1 })

-- the record that is handed out has the label
handed_out : (c : After-hand_out-chance) → HandsOut (records_at c.args.header.limits) c.take_label-removed.result.records
    (record {
      key = c.args.id;
      label = label_or_none c.label_of-label.result;
      count = c.take_label-removed.result.apart;
    }) c.take_label-removed.new.words c.hand_out-chance.new.words c.hand_out-chance.result
handed_out c = rw (c.label_number-number.ensures, c.records_at-from.ensures) at c.hand_out-chance.ensures

-- what holds once the record of what is handed out stands
settled : (c : After-hand_out-chance) →
    Settling c.args.header.figures.entries c.handed_count-handed.result c.take_label-removed.result.entries
    c.take_label-removed.result.bytes c.live_figures-live.result.bytes c.hand_out-chance.new.words
settled c = settling _ c.args.bytes.now _ _ c.requires
    (rw c.templates.ensures.held at c.label_of-label.ensures)
    c.take_label-removed.ensures
    (rw (c.entries-known.ensures.entries, c.label_number-number.ensures) at c.live_figures-live.ensures)
    c.ranges.id.fits (handed_out c)
    (c.hand_out-chance.auto.words ∙ c.take_label-removed.auto.words) c.handed_count-handed.ensures

pub overflow_sub-drops : goal.overflow_sub-drops
overflow_sub-drops c = (settled (goal.at.overflow_sub-drops c).After-hand_out-chance).less_handed

pub overflow_sub-drops-2 : goal.overflow_sub-drops-2
overflow_sub-drops-2 c = (settled (goal.at.overflow_sub-drops-2 c).After-hand_out-chance).less_left

pub overflow_sub-total : goal.overflow_sub-total
overflow_sub-total c = (settled (goal.at.overflow_sub-total c).After-hand_out-chance).less_live

pub write-requires : goal.write-requires
write-requires c = (settled (goal.at.write-requires c).After-hand_out-chance).header_fits

pub returns : goal.returns
returns c = drain_done _ _ _ _ c.requires (labelled (goal.at.returns c).After-label_of-label)
    c.take_label-removed.ensures (live_read (goal.at.returns c).After-live_figures-live) c.ranges.id.fits
    (handed_out (goal.at.returns c).After-hand_out-chance)
    (c.hand_out-chance.auto.words ∙ c.take_label-removed.auto.words) c.handed_count-handed.ensures c.raised.ensures
    c.write.ensures
