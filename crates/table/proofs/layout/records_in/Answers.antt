use Rattle.std.proofs.Common.{arith}
use Rattle.table.proofs.Parts.{templates_read, index_read}
use Rattle.table.proofs.layout.records_in.Goals as goal

pub returns-clause-templates : goal.returns-clause-templates
returns-clause-templates c =
    templates_read c.args.words.now c.args.from c.args.records _ _ (omega (arith, c.requires)) c.as_chunks.ensures.front

pub returns-clause-index : goal.returns-clause-index
returns-clause-index c =
    index_read c.args.words.now c.args.from c.args.records _ _ (omega (arith, c.requires)) c.as_chunks.ensures.front
