use Rattle.table.specs.Parts.{entries_of}
use Rattle.table_entry_test.proofs.EntriesPass.{EntriesPassed}
use Rattle.table_watch.proofs.Watched.{Watched}
use Rattle.table_entry_test.proofs.entries_pass.Given as goal

abbrev pub invariant-loop-words : goal.invariant-loop-words
invariant-loop-words l = record {
  passed : EntriesPassed (entries_of l.entries) l.limits.max_entry_size_bytes l.limits.max_total_bytes l.out l.total l.initial.allow l.allow l.end
      l.held l.words-index;
  watched : Watched (entries_of l.entries) l.watch l.seen l.words-index;
}
