use native.Mathlib.Omega.{arith}
use Rattle.pending_flows.proofs.Questions.{bodies_few}
use Rattle.pending_resize.proofs.Left.{new_few, cut_fits, total_fits, bytes_cut, places_fit, records_fit, move_fits}
use Rattle.pending_resize.proofs.Left.{shrinks}
use Rattle.pending_resize.proofs.shrinking.shrink.Goals as goal

pub records_at-from-requires : goal.records_at-from-requires
records_at-from-requires c = bodies_few _ _ c.requires.holds.legal _ c.requires.holds.limits

pub cut-few-requires : goal.cut-few-requires
cut-few-requires c = cut_fits _ _ c.args.bytes.now c.requires.holds c.requires.accepted c.records_at-from.ensures

pub fit_total-left-requires : goal.fit_total-left-requires
fit_total-left-requires c = record {
  rows_value =
      total_fits _ _ c.args.bytes.now c.requires.holds c.requires.accepted c.records_at-from.ensures c.cut-few.ensures;
  bytes_value =
      bytes_cut _ _ c.args.bytes.now c.requires.holds c.requires.accepted c.records_at-from.ensures c.cut-few.ensures;
}

pub fit_places-requires : goal.fit_places-requires
fit_places-requires c = places_fit _ _ c.args.bytes.now c.requires.holds c.requires.accepted c.records_at-from.ensures
    c.cut-few.ensures c.fit_total-left.ensures

pub records_at-to-requires : goal.records_at-to-requires
records_at-to-requires c = new_few _ _ c.args.bytes.now c.requires.holds c.requires.accepted c.records_at-from.ensures

pub overflow_mul-left : goal.overflow_mul-left
overflow_mul-left c = let fits =
    records_fit _ _ _ c.requires.holds c.requires.accepted c.records_at-from.ensures c.cut-few.ensures
    c.fit_total-left.ensures c.fit_places.ensures c.fit_places.auto.words c.fit_places.auto.bytes in
    omega (arith, fits)

pub move_within-requires : goal.move_within-requires
move_within-requires c = let fits =
    move_fits _ _ _ c.requires.holds c.requires.accepted c.records_at-from.ensures c.cut-few.ensures
    c.fit_total-left.ensures c.fit_places.ensures c.fit_places.auto.words c.fit_places.auto.bytes
    c.records_at-to.ensures in
    (omega (arith, fits), omega (arith, fits))

pub returns : goal.returns
returns c = shrinks _ _ _ c.requires.holds c.requires.accepted c.records_at-from.ensures c.cut-few.ensures
    c.fit_total-left.ensures c.fit_places.ensures c.fit_places.auto.words c.fit_places.auto.bytes
    c.records_at-to.ensures c.move_within.ensures c.move_within.auto.area
