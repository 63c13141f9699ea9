use borrow.Author.Rules.{rules}
use Rattle.table_records.proofs.Chosen.{record_set, beyond_cap}
use Rattle.table_records.proofs.choosing.skip_over.Goals as goal

pub loop-words-preserved : goal.loop-words-preserved
loop-words-preserved c = search (record_set, beyond_cap, rules)
