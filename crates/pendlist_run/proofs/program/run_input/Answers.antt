use Rattle.pendlist_run.proofs.Inputs.{input_begins, write_failed, list_bad, input_over}
use Rattle.pendlist_run.proofs.Inputs.{rows_handed, input_goes_on, reads_over, said_at_ok}
use borrow.Author.Rules.{rules}
use Rattle.pendlist_run.proofs.program.run_input.Goals as goal

pub loop-init : goal.loop-init
loop-init g c = search (input_begins, rules)

pub write_rows-requires : goal.write_rows-requires
write_rows-requires g c = rows_handed c.loop.invariant.0 c.read_more-n.ensures c.take_turn-turn.ensures
    (search rules)

pub returns-then-is_err : goal.returns-then-is_err
returns-then-is_err g c = write_failed c.loop.invariant.0 c.read_more-n.ensures c.take_turn-turn.ensures (search rules)

pub returns-then-turn : goal.returns-then-turn
returns-then-turn g c = list_bad c.loop.invariant.0 c.read_more-n.ensures c.take_turn-turn.ensures (search rules)
    (g.W.Write.contents c.write_rows.new.writer)
    (said_at_ok c.write_rows.result c.if-is_err.ensures.value c.write_rows.ensures) c.if-turn.true

pub returns-then-n-kept : goal.returns-then-n-kept
returns-then-n-kept g c = input_over c.loop.invariant.0 c.read_more-n.ensures c.take_turn-turn.ensures (search rules)
    (g.W.Write.contents c.write_rows.new.writer)
    (said_at_ok c.write_rows.result c.if-is_err.ensures.value c.write_rows.ensures) c.if-turn.false
    c.if-n-kept.true

pub loop-preserved : goal.loop-preserved
loop-preserved g c = (
  input_goes_on c.loop.invariant.0 c.read_more-n.ensures c.take_turn-turn.ensures (search rules)
      (g.W.Write.contents c.write_rows.new.writer)
      (said_at_ok c.write_rows.result c.if-is_err.ensures.value c.write_rows.ensures) c.if-turn.false
      c.if-n-kept.false (search rules) (search rules) (search rules),
  search rules,
  search rules,
)

pub returns : goal.returns
returns g c = search (reads_over, rules)
