use Rattle.std.proofs.Common.{refl, rules, arith}
use Rattle.table.specs.Layout.{word}
use Rattle.table.proofs.Parts.{no_part, part_first}
use Rattle.table_passes.proofs.IndexPass.{no_such_record, key_falls, key_passed, index_passed}
use Rattle.table_passes.proofs.IndexPass.{none_there, known_there, key_there}
use Rattle.table_passes.proofs.index_rises.Goals as goal

pub returns-in_default : goal.returns-in_default
returns-in_default c =
    let some = part_first (λ w. word w 3) c.args.records.now c.loop-words.words-index _ c.loop-words-test.true refl in
    no_such_record c.loop-words.invariant _ some (none_there _ _ _ c.get.ensures.lookup (search rules))

pub returns-then-key-low : goal.returns-then-key-low
returns-then-key-low c =
    let some = part_first (λ w. word w 3) c.args.records.now c.loop-words.words-index _ c.loop-words-test.true refl in
    key_falls c.loop-words.invariant _ some (known_there _ _ _ c.get.ensures.lookup c.in-Some.is) _
    (key_there _ _ _ c.get.ensures.lookup c.in-Some.is c.template_of-key.ensures) c.if-key-low.true

pub loop-words-preserved : goal.loop-words-preserved
loop-words-preserved c =
    let some = part_first (λ w. word w 3) c.args.records.now c.loop-words.words-index _ c.loop-words-test.true refl in
    key_passed c.loop-words.invariant _ some (known_there _ _ _ c.get.ensures.lookup c.in-Some.is) _
    (key_there _ _ _ c.get.ensures.lookup c.in-Some.is c.template_of-key.ensures) c.requires c.if-key-low.false

pub overflow_add-low : goal.overflow_add-low
overflow_add-low c = omega (arith, loop-words-preserved c)

pub returns : goal.returns
returns c = index_passed c.loop-words.invariant
    (no_part (λ w. word w 3) c.args.records.now c.loop-words.words-index c.loop-words-test.false)
