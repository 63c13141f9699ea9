use Prim.Native.Nat.{◌-◌}
use lib.ListN.{get_or}
use Rattle.table_records.proofs.Chosen.{EachSet}
use Rattle.table_records.proofs.choosing.skip_over.Given as goal

abbrev pub invariant-loop-words : goal.invariant-loop-words
invariant-loop-words l = EachSet (λ r. get_or l.counts r.label 0 - l.cap) l.records l.initial.skip l.skip l.words-index
