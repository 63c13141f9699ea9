use mathlib.Core.Path.{sym, ◌∙◌}
use Prim.Native.Nat.{◌+◌}
use Rattle.offer_plan.proofs.Steps.{bodies_few}
use Rattle.offer_steps.specs.Room.{AddsBody}
use Rattle.pending_offer.specs.Promises.{body_of}
use Rattle.pending_offer.proofs.Left.{planned}
use Rattle.pending_offer.proofs.Offered.{fits_small, size_within}
use Rattle.pending_offer.proofs.ForBody.{left_with, room_left, adds_left, accepting}
use Rattle.pending_offer.proofs.Labels.{left_within, left_few}
use Rattle.pending_offer.proofs.Accepted.{Accepting, total_fits}
use Rattle.pending_offer.proofs.Accepts.{accepted_room, accepted_fewer, records_fit, entries_fit}
use Rattle.pending_offer.proofs.Accepts.{accepted_settles, accepted_does}
use Rattle.pending_offer.proofs.offering.accept.Goals as goal
use Rattle.pending_offer.proofs.offering.accept.Goals.{After-choose_label-label, After-add_body}

pub remove_for_body-left-requires : goal.remove_for_body-left-requires
remove_for_body-left-requires c = let cache = c.requires.fits.cache in
    planned _ _ cache.legal _ _ _ _ c.requires.plans.0 cache

pub records_at-requires : goal.records_at-requires
records_at-requires c = bodies_few _ _ c.requires.fits.cache

pub records_in-records-requires : goal.records_in-records-requires
records_in-records-requires c = let cache = c.requires.fits.cache in
    left_within c.args.words.now c.args.bytes.now cache.legal c.args.id (body_of c.args.body.now c.args.clock)
    (fits_small c.requires.fits) c.requires.plans.0 c.requires.plans.1 c.remove_for_body-left.ensures.removes _
    c.records_at.ensures cache.limits c.remove_for_body-left.auto.words

pub choose_label-label-requires : goal.choose_label-label-requires
choose_label-label-requires c =
    left_few c.args.words.now c.args.bytes.now c.requires.fits.cache.legal c.args.id
    (body_of c.args.body.now c.args.clock) (fits_small c.requires.fits) c.requires.plans.0 c.requires.plans.1
    c.remove_for_body-left.ensures.removes c.records_in-records.ensures.count

-- what is known once the label is chosen
known : (c : After-choose_label-label) →
    Accepting c.args.words.now c.args.bytes.now c.args.header c.args.id c.args.body.now c.args.clock c.args.plan
    c.remove_for_body-left.ensures.unpacked c.remove_for_body-left.result c.choose_label-label.result
known c = accepting _ _ c.requires.fits c.ranges.id.fits c.requires.plans c.remove_for_body-left.ensures
    c.records_at.ensures _ c.records_in-records.ensures.templates c.choose_label-label.ensures

pub add_body-requires : goal.add_body-requires
add_body-requires c = let done = c.remove_for_body-left in
    room_left c.args.body.now (accepted_room (known (goal.at.add_body-requires c).After-choose_label-label))
    (done.auto.words ∙ sym done.ensures.removes.long) done.auto.bytes
    (left_with c.requires.fits.cache.limits done.ensures.left)

-- what is added, packed or not
adds : (c : After-add_body) →
    AddsBody c.args.header.limits c.remove_for_body-left.result.records c.remove_for_body-left.result.entries
    (record {
      key = c.args.id;
      label = c.choose_label-label.result;
      count = c.remove_for_body-left.result.apart + 1;
    }) c.args.body.now c.args.clock c.remove_for_body-left.ensures.unpacked c.args.bytes.now c.add_body.new.words
    c.add_body.new.bytes
adds c = let done = c.remove_for_body-left in
    let known = accepting _ _ c.requires.fits c.ranges.id.fits c.requires.plans done.ensures c.records_at.ensures _
    c.records_in-records.ensures.templates c.choose_label-label.ensures in
    adds_left _ (accepted_room known) (done.auto.words ∙ sym done.ensures.removes.long) done.auto.bytes
    (left_with c.requires.fits.cache.limits done.ensures.left) c.add_body.ensures

pub overflow_sub-drops : goal.overflow_sub-drops
overflow_sub-drops c =
    accepted_fewer (known (goal.at.overflow_sub-drops c).After-choose_label-label) c.held_bodies-held.ensures

pub overflow_add-total : goal.overflow_add-total
overflow_add-total c = record { fits = total_fits (known (goal.at.overflow_add-total c).After-choose_label-label) }

pub overflow_add-left : goal.overflow_add-left
overflow_add-left c = record { fits = records_fit (known (goal.at.overflow_add-left c).After-choose_label-label) }

pub overflow_add-left-2 : goal.overflow_add-left-2
overflow_add-left-2 c = record { fits = entries_fit (known (goal.at.overflow_add-left-2 c).After-choose_label-label) }

pub settle-requires : goal.settle-requires
settle-requires c =
    accepted_settles (known (goal.at.settle-requires c).After-choose_label-label)
    (c.add_body.auto.words ∙ c.remove_for_body-left.auto.words) (adds (goal.at.settle-requires c).After-add_body)

pub returns : goal.returns
returns c =
    accepted_does (known (goal.at.returns c).After-choose_label-label) c.held_bodies-held.ensures
    (c.add_body.auto.words ∙ c.remove_for_body-left.auto.words) (adds (goal.at.returns c).After-add_body)
    c.settle.ensures
