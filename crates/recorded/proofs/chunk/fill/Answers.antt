use Rattle.std.proofs.Common.{rules}
use Rattle.recorded.proofs.BytesTaken.{part_behind}
use Rattle.recorded.proofs.chunk.fill.Goals as goal

pub returns-clause-taken : goal.returns-clause-taken
returns-clause-taken g c =
    rw (part_behind c.args.kept c.read_full-more.result c.args.buffer.now c.read_full-more.new.buffer c.requires
    (search rules)) c.read_full-more.ensures.taken
