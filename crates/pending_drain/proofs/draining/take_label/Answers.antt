use mathlib.Core.Path.{◌≡◌}
use Prim.Native.Nat.{◌+◌, ◌*◌}
use Rattle.config.specs.Limits.{record_words}
use borrow.Author.Rules.{rules}
use Rattle.table.specs.Layout.{records_at}
use Rattle.table.specs.Table.{records_from}
use Rattle.table.specs.Reads.{label_or_none}
use Rattle.table_records.specs.Choose.{skipping}
use Rattle.pending_calls.specs.Removal.{unexpired}
use Rattle.pending_drain.specs.Handing.{zeros}
use Rattle.pending_flows.proofs.HeldRows.{rows_held}
use Rattle.pending_drain.proofs.NoneTaken.{none_taken}
use Rattle.pending_drain.proofs.SomeTaken.{skips_whole, live_told, some_taken, expired_taken}
use Rattle.pending_drain.proofs.draining.take_label.Goals as goal
use Rattle.pending_drain.proofs.draining.take_label.Goals.{After-skip_records, After-label_test-test}

pub templates-requires : goal.templates-requires
templates-requires c = rows_held _ _ c.requires.header_value

pub remove_none-requires : goal.remove_none-requires
remove_none-requires c = record {
  header_value = c.requires.header_value;
  chance_value = (c.nothing_goes.ensures (search rules)).hands_none;
}

pub returns-then-nothing_goes : goal.returns-then-nothing_goes
returns-then-nothing_goes c = none_taken _ c.args.bytes.now _ c.requires.header_value c.requires.label_value _
    c.requires.live_value
    (rw c.templates.ensures.held at (c.nothing_goes.ensures c.if-nothing_goes.true)) c.remove_none.ensures

pub returns-then-figures-eq0 : goal.returns-then-figures-eq0
returns-then-figures-eq0 c = expired_taken _ _ c.requires.header_value c.if-figures-eq0.true _ _ (rw c.label_number-number.ensures at c.remove_expired_of.ensures)

-- the bodies of what is handed out are skipped, and the expired ones of the label go
skipped : (c : After-skip_records) → c.skip_records.new.skip
    ≡ skipping zeros (records_from c.args.words.now
    (records_at c.args.header.limits + record_words * c.args.header.figures.templates) c.args.header.figures.chance)
skipped c = rw c.templates.ensures.handed at c.skip_records.ensures

tested : (c : After-label_test-test) → c.label_test-test.result
    ≡ unexpired c.args.header.limits.ttl c.args.clock (label_or_none c.args.label)
tested c = rw c.label_number-number.ensures at c.label_test-test.ensures

pub remove_whole-requires : goal.remove_whole-requires
remove_whole-requires c = let holds = c.requires.header_value in
    let labelled = c.requires.label_value in
    let skips = skipped (goal.at.remove_whole-requires c).After-skip_records in
    let test = tested (goal.at.remove_whole-requires c).After-label_test-test in
    record {
      header_value = holds;
      skip_value = skips_whole _ c.args.bytes.now _ holds labelled c.args.clock skips;
      live_value = live_told _ c.args.bytes.now _ holds labelled _ skips test _ c.requires.live_value;
    }

pub returns : goal.returns
returns c = some_taken _ c.args.bytes.now _ c.requires.header_value c.requires.label_value _
    (skipped (goal.at.returns c).After-skip_records) (tested (goal.at.returns c).After-label_test-test)
    c.remove_whole.ensures
