use Rattle.table_records.specs.Choose.{skip_all}
use Rattle.table_records.proofs.Chosen.{EachSet}
use Rattle.table_records.proofs.choosing.skip_records.Given as goal

abbrev pub invariant-loop-words : goal.invariant-loop-words
invariant-loop-words l = EachSet (λ r. skip_all) l.records l.initial.skip l.skip l.words-index
