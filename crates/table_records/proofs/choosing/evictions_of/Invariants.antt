use Rattle.table_records.proofs.Chosen.{Evicted}
use Rattle.table_records.proofs.choosing.evictions_of.Given as goal

abbrev pub invariant-loop-evicted : goal.invariant-loop-evicted
invariant-loop-evicted l = Evicted l.room l.sizes l.total l.records l.held l.evicted
