use borrow.Author.Rules.{rules}
use Rattle.table_records.proofs.Taken.{passes_take}
use Rattle.table_promotion.proofs.taking.take_off.Goals as goal

pub returns : goal.returns
returns c = search (passes_take, rules)
