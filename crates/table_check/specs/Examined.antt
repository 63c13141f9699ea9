-- What the test of a table answers: the verdict, with what was seen of what is sought.
use Rattle.std.specs.Prelude.{Result}
use Rattle.table_watch.specs.declared.LabelSeen.{LabelSeen}
use Rattle.table.specs.declared.Damaged.{Damaged}
use Rattle.std.specs.Prelude.{List, ℕ}
use Rattle.table.specs.Table.{index, table_of}
use Rattle.table.specs.WellFormed.{table_legal, well_formed}
use Rattle.table_watch.specs.declared.Sought.{Sought}
use Rattle.table_watch.specs.Watch.{watch_in, seen_by, judged}

-- a table whose header is legal, with what was sought in it
abbrev pub table_examined : List ℕ → Sought → Result LabelSeen Damaged
table_examined w s = judged (table_legal (table_of w) (index w)) (seen_by (watch_in (table_of w) s) (table_of w).entries)

-- words, beside so many bytes, that are tested, with what was sought in them
abbrev pub examined : List ℕ → ℕ → Sought → Result LabelSeen Damaged
examined w bytes s = judged (well_formed w bytes) (seen_by (watch_in (table_of w) s) (table_of w).entries)
