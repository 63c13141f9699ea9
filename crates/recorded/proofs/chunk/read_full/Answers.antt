use Rattle.std.proofs.Common.{rules}
use Rattle.recorded.proofs.BytesTaken.{more_taken}
use Rattle.recorded.proofs.chunk.read_full.Goals as goal

pub loop-done-preserved : goal.loop-done-preserved
loop-done-preserved g c = record {
  within = search rules;
  same_length = search rules;
  taken =
      more_taken c.loop-done.done c.read_some-n.result c.loop-done.buffer c.read_some-n.new.buffer
      (search rules) (search rules) (g.R.Read.remaining c.args.reader.now) (g.R.Read.remaining c.loop-done.reader)
      (g.R.Read.remaining c.read_some-n.new.reader) c.loop-done.invariant.taken c.read_some-n.ensures.taken;
}
