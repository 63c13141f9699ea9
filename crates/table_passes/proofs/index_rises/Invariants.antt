use Rattle.table.specs.Parts.{templates_of, index_of}
use Rattle.table_passes.proofs.IndexPass.{IndexPassed}
use Rattle.table_passes.proofs.index_rises.Given as goal

abbrev pub invariant-loop-words : goal.invariant-loop-words
invariant-loop-words l = IndexPassed (templates_of l.records) (index_of l.records) l.low l.words-index
