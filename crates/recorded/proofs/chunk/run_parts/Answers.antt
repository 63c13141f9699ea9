use Rattle.std.proofs.Common.{rules, of_calls, take, refl}
use Rattle.recorded.proofs.PartsRun.{all_taken, part_run}
use Rattle.recorded.proofs.chunk.run_parts.Goals as goal
use Rattle.recorded.proofs.chunk.run_parts.Goals.{else-loop-test, then-loop-test+then-lines-eq0}

pub loop-preserved : goal.loop-preserved
loop-preserved g c = (
  search of_calls,
  part_run c.loop.invariant.1 c.fill-n.new.buffer c.fill-n.result (g.R.Read.remaining c.fill-n.new.reader)
      c.fill-n.ensures.within.0 c.fill-n.ensures.front c.fill-n.ensures.taken c.whole_lines-lines.result
      (search rules) c.run.new.self (record { shown = _; shows = refl; called = c.run.ensures }) c.move_to_front-kept.new.buffer
      c.move_to_front-kept.result c.move_to_front-kept.ensures.count c.move_to_front-kept.ensures.moved (search rules) (search rules) (search rules),
)

pub returns : goal.returns
returns g c =
    let ran = c.loop.invariant.1 in
    elim c.loop-test.branch [
      | else-loop-test w ↦ (ran.parts, c.loop.run, take c.loop.kept c.loop.buffer, ran.folds, rw w.reader-is ran.taken)
      | then-loop-test+then-lines-eq0 w ↦ (
        ran.parts,
        c.loop.run,
        take w.fill-n.result w.fill-n.new.buffer,
        ran.folds,
        rw w.reader-is (all_taken ran w.fill-n.new.buffer w.fill-n.result (g.R.Read.remaining w.fill-n.new.reader) w.fill-n.ensures.within.0 w.fill-n.ensures.front w.fill-n.ensures.taken),
      )
    ]
