use Rattle.pendlist_calls.proofs.Stepping.{row_told, no_row}
use borrow.Author.Rules.{rules}
use Rattle.pendlist_calls.proofs.row_after.Goals as goal

pub returns-in_default : goal.returns-in_default
returns-in_default c = search (no_row, rules)

pub returns : goal.returns
returns c = search (row_told, rules)
