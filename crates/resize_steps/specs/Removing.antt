-- A removal with no label set apart.
use Rattle.std.specs.Prelude.{List, ℕ, replicate}
use Rattle.table.specs.declared.Entry.{Entry}
use Rattle.table_entries.specs.declared.StayTest.{StayTest}
use Rattle.pending_calls.specs.declared.removal.Removed.{Removed}
use Rattle.pending_calls.specs.Removal.{counted_but, Removes}

-- an array with a number for each label, all 0
abbrev pub zeros : List ℕ
zeros = replicate 1024 0

-- how many bodies each label has
abbrev pub counts_of : List Entry → List ℕ
counts_of es = counted_but 1024 es

abbrev pub RemovesSkipped : StayTest → (p k m : ℕ) → (skip w w' : List ℕ) → Removed → Type 0
RemovesSkipped q p k m skip w w' r = Removes q p k m 1024 skip w w' r
