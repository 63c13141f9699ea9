use Rattle.table.specs.Parts.{templates_of}
use Rattle.table_passes.proofs.RecordsPass.{RecordsPassed}
use Rattle.table_passes.proofs.records_pass.Given as goal

abbrev pub invariant-loop-words : goal.invariant-loop-words
invariant-loop-words l = RecordsPassed (templates_of l.records) l.cap l.entries l.initial.allow l.allow l.sum
    l.words-index
