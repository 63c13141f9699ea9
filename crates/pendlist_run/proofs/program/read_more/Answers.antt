use borrow.Author.Rules.{rules}
use Rattle.pendlist_run.proofs.Inputs.{read_behind}
use Rattle.pendlist_run.proofs.program.read_more.Goals as goal

pub returns-in-Ok : goal.returns-in-Ok
returns-in-Ok g c =
    read_behind c.args.kept c.in-Ok.got c.args.buffer.now c.read.new.buf (g.R.Read.remaining c.args.reader.now)
    (g.R.Read.remaining c.read.new.self) c.requires c.in-Ok.ensures.bound.0 (search rules)
    c.in-Ok.ensures.bytes.0
