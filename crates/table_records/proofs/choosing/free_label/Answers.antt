use borrow.Author.Rules.{rules}
use Rattle.table_records.proofs.FreeLabels.{room_for_all}
use Rattle.table_records.proofs.GreatestLabels.{next_free}
use Rattle.table_records.proofs.choosing.free_label.Goals as goal

pub returns-then-greatest-last_label : goal.returns-then-greatest-last_label
returns-then-greatest-last_label c = search (next_free, rules)

pub least_unused-requires-2 : goal.least_unused-requires-2
least_unused-requires-2 c = search (room_for_all, rules)
