use borrow.Author.Rules.{rules}
use Rattle.table_records.proofs.Chosen.{record_set}
use Rattle.table_records.proofs.Whole.{whole_kept}
use Rattle.table_records.proofs.keeping.count_whole.Goals as goal

pub loop-words-preserved : goal.loop-words-preserved
loop-words-preserved c = search (record_set, whole_kept, rules)
