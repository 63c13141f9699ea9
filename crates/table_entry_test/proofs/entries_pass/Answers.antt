use Rattle.std.proofs.Common.{refl, ◌∙◌, rules, arith}
use Rattle.table.specs.Parts.{entry_of}
use Rattle.table.proofs.Parts.{no_part, part_first}
use Rattle.table_entry_test.proofs.EntriesPass.{no_entry_passed, refused, allowance_read, no_allowance, none_left}
use Rattle.table_entry_test.proofs.EntriesPass.{misplaced, end_fits, held_fits, entry_passed, ends_past}
use Rattle.table_entry_test.proofs.EntriesPass.{total_wrong, total_right}
use Rattle.table_watch.proofs.Watched.{none_watched, entry_watched, all_watched}
use Rattle.table_watch.proofs.Verdicts.{damaged, shown}
use Rattle.table_entry_test.proofs.entries_pass.Goals.{then-allowed-eq0-via-then-allowed-eq0, then-allowed-eq0-via-else-allowed-eq0+then-not-entry_fits}
use Rattle.table_entry_test.proofs.entries_pass.Goals as goal

pub loop-words-init : goal.loop-words-init
loop-words-init c = search (no_entry_passed, none_watched, rules)

pub returns-in_err-allowed : goal.returns-in_err-allowed
returns-in_err-allowed c =
    let some = part_first entry_of c.args.entries.now c.loop-words.words-index _ c.loop-words-test.true c.entry_of-entry.ensures in
    let read = no_allowance _ _ _ _ c.get.ensures.lookup c.ok_or.ensures.ok_part c.in_err-allowed.was in
    refused _ c.from_residual.ensures.0 ∙ damaged (none_left c.loop-words.invariant.passed some read refl) _

pub returns-then-allowed-eq0 : goal.returns-then-allowed-eq0
returns-then-allowed-eq0 c =
    let some = part_first entry_of c.args.entries.now c.loop-words.words-index _ c.loop-words-test.true c.entry_of-entry.ensures in
    let read = allowance_read _ _ _ _ c.get.ensures.lookup c.ok_or.ensures.ok_part c.in_ok-allowed.was in
    elim c.then-allowed-eq0.branch [
      | then-allowed-eq0-via-then-allowed-eq0 w ↦ damaged (none_left c.loop-words.invariant.passed some read w.if-allowed-eq0.true) _
      | then-allowed-eq0-via-else-allowed-eq0+then-not-entry_fits w ↦ damaged (misplaced c.loop-words.invariant.passed some read w.if-allowed-eq0.false _ w.entry_fits.ensures w.if-not-entry_fits.true) _
    ]

pub overflow_add-end : goal.overflow_add-end
overflow_add-end c =
    let some = part_first entry_of c.args.entries.now c.loop-words.words-index _ c.loop-words-test.true c.entry_of-entry.ensures in
    let read = allowance_read _ _ _ _ c.get.ensures.lookup c.ok_or.ensures.ok_part c.in_ok-allowed.was in
    record {
      fits = end_fits c.loop-words.invariant.passed some read c.if-allowed-eq0.false _ c.entry_fits.ensures
          c.if-not-entry_fits.false c.requires.max_size_bound;
    }

pub overflow_add-held : goal.overflow_add-held
overflow_add-held c =
    let some = part_first entry_of c.args.entries.now c.loop-words.words-index _ c.loop-words-test.true c.entry_of-entry.ensures in
    let read = allowance_read _ _ _ _ c.get.ensures.lookup c.ok_or.ensures.ok_part c.in_ok-allowed.was in
    record {
      fits = held_fits c.loop-words.invariant.passed some read c.if-allowed-eq0.false _ c.entry_fits.ensures
          c.if-not-entry_fits.false c.requires.max_size_bound c.held_len.ensures;
    }

pub loop-words-preserved : goal.loop-words-preserved
loop-words-preserved c =
    let some = part_first entry_of c.args.entries.now c.loop-words.words-index _ c.loop-words-test.true c.entry_of-entry.ensures in
    let read = allowance_read _ _ _ _ c.get.ensures.lookup c.ok_or.ensures.ok_part c.in_ok-allowed.was in
    record {
      passed = entry_passed c.loop-words.invariant.passed some read c.if-allowed-eq0.false _ c.entry_fits.ensures
          c.if-not-entry_fits.false c.held_len.ensures c.one_less.ensures;
      watched = entry_watched c.loop-words.invariant.watched _ some c.pass_entry-seen.ensures;
    }

pub pass_entry-seen-requires : goal.pass_entry-seen-requires
pass_entry-seen-requires c = record {
  entry_read = c.entry_of-entry.ensures;
  live_bound = omega (arith, c.loop-words.invariant.watched.few);
}

pub returns-then-limits-end : goal.returns-then-limits-end
returns-then-limits-end c = damaged
    (ends_past c.loop-words.invariant.passed (no_part entry_of c.args.entries.now c.loop-words.words-index c.loop-words-test.false) c.if-limits-end.true) _

pub returns-then-held-total : goal.returns-then-held-total
returns-then-held-total c = damaged
    (total_wrong c.loop-words.invariant.passed (no_part entry_of c.args.entries.now c.loop-words.words-index c.loop-words-test.false) c.if-limits-end.false c.if-held-total.true) _

pub returns : goal.returns
returns c =
    let none = no_part entry_of c.args.entries.now c.loop-words.words-index c.loop-words-test.false in
    shown (total_right c.loop-words.invariant.passed none c.if-limits-end.false c.if-held-total.false)
    (all_watched c.loop-words.invariant.watched none)
