use native.Mathlib.Omega.{arith}
use borrow.Author.Rules.{rules}
use lib.ListN.{length-set}
use Rattle.table_records.proofs.Adds.{record_added}
use Rattle.table_promotion.proofs.adding.add_record.Goals as goal

pub put_record-requires : goal.put_record-requires
put_record-requires c = simp length-set (omega arith)

pub returns : goal.returns
returns c = rw c.put_record.ensures (search (record_added, rules))
