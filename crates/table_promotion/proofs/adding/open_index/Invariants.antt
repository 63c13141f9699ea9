use Rattle.table_records.proofs.OpensIndex.{Opening}
use Rattle.table_promotion.proofs.adding.open_index.Given as goal

abbrev pub invariant-loop-k : goal.invariant-loop-k
invariant-loop-k l = Opening l.from l.records l.key l.initial.words l.words l.k
