use lib.ListN.{get_or}
use Rattle.table_records.specs.Whole.{whole_count}
use Rattle.table_records.proofs.Chosen.{EachSet}
use Rattle.table_records.proofs.keeping.count_whole.Given as goal

abbrev pub invariant-loop-words : goal.invariant-loop-words
invariant-loop-words l = EachSet (λ r. whole_count (get_or l.skip r.label 0) r.count) l.records l.initial.kept l.kept l.words-index
