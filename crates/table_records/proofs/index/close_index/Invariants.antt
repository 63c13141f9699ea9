use Rattle.std.proofs.Common.{List, ℕ, ◌+◌, ◌-◌, ◌*◌, ◌<◌, ◌≤◌, ◌^◌}
use Rattle.config.specs.Limits.{record_words}
use Rattle.table.specs.Layout.{word}
use Rattle.table_records.specs.Passes.{TellsPositions}
use Rattle.table_records.proofs.ClosesIndex.{Remapping}
use Rattle.table_records.proofs.index.close_index.Given as goal

-- whatever positions are told
abbrev pub invariant-loop-k : goal.invariant-loop-k
invariant-loop-k g l = record {
  few : l.remain ≤ l.k;
  passed : (ps : List ℕ) → TellsPositions (goal.F-post g l.moved) ps → ((j : ℕ) → word l.words j < 2 ^ 64) ×
      Remapping l.from l.records ps l.initial.words l.words l.remain (l.records - l.k) (l.from + record_words * l.k);
}
