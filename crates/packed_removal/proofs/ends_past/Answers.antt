use borrow.Author.Rules.{rules}
use Rattle.table_entries.proofs.Ends.{last_small}
use Rattle.packed_removal.proofs.ends_past.Goals as goal

pub last_end-requires : goal.last_end-requires
last_end-requires c = search (last_small, rules)
