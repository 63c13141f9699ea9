use Rattle.std.proofs.Common.{refl}
use Rattle.table_check.proofs.WordsPasses.{keys_small, records_wrong, index_wrong, entries_seen}
use Rattle.table_watch.proofs.Verdicts.{damaged}
use Rattle.table_check.proofs.test_table.Goals as goal

pub returns-then-not-records_pass : goal.returns-then-not-records_pass
returns-then-not-records_pass c =
    let records = c.records_in-records.ensures in
    damaged (records_wrong _ _ _ c.requires.0 c.requires.1 _ c.records_at.ensures c.records_in-records.result.now
    records.templates records.index refl _ _ c.records_pass.ensures c.if-not-records_pass.true) _

pub index_rises-requires : goal.index_rises-requires
index_rises-requires c = keys_small _ c.records_pass.ensures c.if-not-records_pass.false

pub returns-then-not-index_rises : goal.returns-then-not-index_rises
returns-then-not-index_rises c =
    let records = c.records_in-records.ensures in
    damaged (index_wrong _ _ _ c.requires.0 c.requires.1 _ c.records_at.ensures c.records_in-records.result.now
    records.templates records.index refl _ _ c.records_pass.ensures c.if-not-records_pass.false _
    c.index_rises.ensures c.if-not-index_rises.true) _

pub returns : goal.returns
returns c =
    let records = c.records_in-records.ensures in
    entries_seen _ _ _ c.requires.0 c.requires.1 _ c.records_at.ensures c.records_in-records.result.now
    records.templates records.index c.entries_in-entries.ensures.entries _ _ c.records_pass.ensures
    c.if-not-records_pass.false _ c.index_rises.ensures c.if-not-index_rises.false c.split_at.ensures.front
    c.split_at.ensures.back c.first_label.ensures c.label_number-out.ensures _ c.watch_for-watch.ensures
    c.entries_pass.ensures
