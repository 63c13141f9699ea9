use Rattle.std.proofs.Common.{rules, arith}
use Rattle.table.specs.Parts.{template_of}
use Rattle.table.proofs.Parts.{no_part, part_first}
use Rattle.table_passes.proofs.RecordsPass.{no_record_passed, large_label, not_fresh, count_fits}
use Rattle.table_passes.proofs.RecordsPass.{record_passed, records_passed}
use Rattle.table_passes.proofs.records_pass.Goals as goal

pub loop-words-init : goal.loop-words-init
loop-words-init c = search (no_record_passed, rules)

pub returns-in_default : goal.returns-in_default
returns-in_default c =
    let some = part_first template_of c.args.records.now c.loop-words.words-index _ c.loop-words-test.true
    c.template_of-template.ensures in
    large_label c.loop-words.invariant _ some _ c.get.ensures.lookup _ (search rules)

pub returns-then-not-record_fresh : goal.returns-then-not-record_fresh
returns-then-not-record_fresh c =
    let some = part_first template_of c.args.records.now c.loop-words.words-index _ c.loop-words-test.true
    c.template_of-template.ensures in
    not_fresh c.loop-words.invariant _ some _ c.get.ensures.lookup c.in-Some.is _ c.record_fresh.ensures _
    c.if-not-record_fresh.true

pub overflow_cast-allow : goal.overflow_cast-allow
overflow_cast-allow c =
    let some = part_first template_of c.args.records.now c.loop-words.words-index _ c.loop-words-test.true
    c.template_of-template.ensures in
    record {
      fits = count_fits c.loop-words.invariant _ some _ c.get.ensures.lookup c.in-Some.is _ c.record_fresh.ensures
          c.if-not-record_fresh.false c.requires.1;
    }

pub loop-words-preserved : goal.loop-words-preserved
loop-words-preserved c =
    let some = part_first template_of c.args.records.now c.loop-words.words-index _ c.loop-words-test.true
    c.template_of-template.ensures in
    record_passed c.loop-words.invariant _ some _ c.get.ensures.lookup c.in-Some.is _ c.record_fresh.ensures
    c.if-not-record_fresh.false c.requires.1

pub overflow_add-sum : goal.overflow_add-sum
overflow_add-sum c = omega (arith, loop-words-preserved c)

pub returns : goal.returns
returns c = records_passed c.loop-words.invariant (no_part template_of c.args.records.now c.loop-words.words-index
    c.loop-words-test.false)
