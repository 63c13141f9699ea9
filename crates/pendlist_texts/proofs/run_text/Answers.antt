use Rattle.std.proofs.Common.{rules, tests, eqb}
use Rattle.std.proofs.lemmas.List.Sorted.{answers_always}
use Rattle.pendlist_input.proofs.Ends.{line_counted, part_is_line}
use Rattle.pendlist_texts.proofs.Lists.{list_begins, line_lent, row_fits, list_goes_on, list_ends, list_over}
use Rattle.pendlist_texts.proofs.run_text.Goals as goal

pub loop-row-init : goal.loop-row-init
loop-row-init c = search (list_begins, rules)

pub slice_bounds-line-end : goal.slice_bounds-line-end
slice_bounds-line-end c = search (line_counted, rules)

pub put_outcome-filled-requires : goal.put_outcome-filled-requires
put_outcome-filled-requires c = row_fits c.loop-row.invariant c.requires.1 (c.in-Some.ensures.steps.2)

pub returns-then-is_bad : goal.returns-then-is_bad
returns-then-is_bad c =
    let s = c.in-Some.ensures.steps in
    let first = s.1.2 (λ b. eqb b 10) (answers_always _ _ _ (λ f x b q k. search (rules, tests))) in
    let next = part_is_line _ _ _ s.1.0 s.0 s.1.1 first.1 s.2 in
    let ran = line_lent _ _ _ c.line_end.ensures c.run_line-outcome.ensures in
    list_ends c.loop-row.invariant next ran c.put_outcome-filled.ensures c.requires.1 (search rules) c.is_bad.ensures
    c.if-is_bad.true

pub loop-row-preserved : goal.loop-row-preserved
loop-row-preserved c =
    let s = c.in-Some.ensures.steps in
    let first = s.1.2 (λ b. eqb b 10) (answers_always _ _ _ (λ f x b q k. search (rules, tests))) in
    let next = part_is_line _ _ _ s.1.0 s.0 s.1.1 first.1 s.2 in
    let ran = line_lent _ _ _ c.line_end.ensures c.run_line-outcome.ensures in
    list_goes_on c.loop-row.invariant next ran c.put_outcome-filled.ensures c.requires.1 (search rules) (search rules)
    (search rules) c.is_bad.ensures c.if-is_bad.false

pub returns : goal.returns
returns c = list_over c.loop-row.invariant c.in-None.ensures.steps.0
