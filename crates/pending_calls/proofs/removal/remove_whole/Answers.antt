use mathlib.Core.Path.{◌≡◌, ◌∙◌}
use native.Mathlib.Omega.{arith}
use Rattle.pending_flows.proofs.Questions.{bodies_few}
use Rattle.table_entries.specs.Sweep.{swept}
use Rattle.table.specs.Layout.{entry_count, entries_at}
use Rattle.table.specs.Table.{entries_from}
use Rattle.pending_calls.specs.Removal.{counted}
use Rattle.pending_calls.proofs.NoneRemoved.{records_few, records_fit, records_inside}
use Rattle.pending_calls.proofs.WholeRemoved.{sweep_room, live_small, records_told, live_told, whole_removed}
use Rattle.pending_calls.proofs.removal.remove_whole.Goals as goal
use Rattle.pending_calls.proofs.removal.remove_whole.Goals.{Joined-live, in-Some, in_default}

pub records_at-from-requires : goal.records_at-from-requires
records_at-from-requires c = bodies_few _ _ c.requires.header_value.legal _ c.requires.header_value.limits

pub overflow_add-records : goal.overflow_add-records
overflow_add-records c = record { fits = records_fit _ _ c.requires.header_value }

pub records_in-requires : goal.records_in-requires
records_in-requires c = records_inside _ _ c.requires.header_value c.records_at-from.ensures

pub overflow_cast-bodies : goal.overflow_cast-bodies
overflow_cast-bodies c = record {
  fits = live_small _ c.args.bytes.now c.requires.header_value c.requires.skip_value _ _ _ c.in-Some.is
      c.requires.live_value;
}

pub sweep-left-requires : goal.sweep-left-requires
sweep-left-requires c = sweep_room _ c.args.bytes.now c.requires.header_value c.requires.skip_value

pub close_apart-requires : goal.close_apart-requires
close_apart-requires c = let holds = c.requires.header_value in
    let inside = records_inside _ _ holds c.records_at-from.ensures in
    (omega (arith, inside, c.sweep-left.auto.words), records_few _ _ holds)

-- what each label keeps is told
kept_told : (c : Joined-live) → c.match-live.kept
    ≡ counted (swept c.args.test c.args.skip.now (entries_from c.args.words.now entries_at (entry_count
    c.args.words.now)))
kept_told c =
    elim c.match-live.branch [
      | in-Some w ↦
          w.kept-is ∙ w.set_sum.ensures
          ∙ rw w.label_number.ensures
          (live_told _ c.args.bytes.now c.requires.header_value c.requires.skip_value _ _ c.records_at-from.ensures
          (rw c.records_in.ensures.templates at c.count_whole.ensures) c.requires.live_value _ w.in-Some.is)
      | in_default w ↦
          w.kept-is
          ∙ records_told _ c.args.bytes.now c.requires.header_value c.requires.skip_value _ _ c.records_at-from.ensures
          (rw c.records_in.ensures.templates at c.count_whole.ensures) c.requires.live_value w.in_default.is
    ]

pub returns : goal.returns
returns c = whole_removed _ c.args.bytes.now c.requires.header_value c.requires.skip_value _ _
    c.records_at-from.ensures (kept_told (goal.at.returns c).Joined-live) c.sweep-left.ensures
    c.close_apart.ensures (c.close_apart.auto.words ∙ c.sweep-left.auto.words)
