use Rattle.std.proofs.Common.{arith}
use Rattle.table.specs.Layout.{entries_at}
use Rattle.table.proofs.Parts.{entries_read}
use Rattle.table.proofs.layout.entries_in.Goals as goal

pub returns-clause-entries : goal.returns-clause-entries
returns-clause-entries c =
    entries_read c.args.words.now entries_at c.args.entries _ _ (omega (arith, c.requires)) c.as_chunks.ensures.front
