use mathlib.Core.Path.{refl}
use native.Mathlib.Omega.{arith}
use lib.ListN.{length-set}
use Rattle.table_records.specs.Close.{put_record}
use Rattle.table_records.proofs.storing.put_record.Goals as goal

pub bounds-words-p-2 : goal.bounds-words-p-2
bounds-words-p-2 c = simp length-set (omega arith)

pub bounds-words-p-3 : goal.bounds-words-p-3
bounds-words-p-3 c = simp length-set (omega arith)

pub returns : goal.returns
unfolding put_record
returns c = refl
