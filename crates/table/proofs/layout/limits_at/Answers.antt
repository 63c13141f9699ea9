use Rattle.std.proofs.Common.{rules}
use Rattle.table.proofs.Words.{limits_read}
use Rattle.table.proofs.layout.limits_at.Goals as goal

pub returns : goal.returns
returns c = search (limits_read, rules)
