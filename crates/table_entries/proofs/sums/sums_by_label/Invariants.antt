use Rattle.std.proofs.Common.{Bool}
use Rattle.table.specs.Parts.{entries_of}
use Rattle.table_entries.specs.declared.StayTest.{StayTest}
use Rattle.table_entries.specs.Sums.{TellsShares}
use Rattle.table_entries.proofs.SumsPasses.{SumsPassed}
use Rattle.table_entries.proofs.sums.sums_by_label.Given as goal

-- whatever test the shares are told by
abbrev pub invariant-loop-words : goal.invariant-loop-words
invariant-loop-words g l = (test : StayTest) (bytes : Bool) → TellsShares (goal.F-post g l.share) test bytes →
    SumsPassed test bytes (entries_of l.entries) l.initial.sums l.sums l.words-index
