use Rattle.table_entries.proofs.PackAll.{EntriesPacked}
use Rattle.table_entries.proofs.pack.pack_bodies.Given as goal

abbrev pub invariant-loop-i : goal.invariant-loop-i
invariant-loop-i l = EntriesPacked l.entries l.initial.words l.initial.bytes l.words l.bytes l.run l.i
