-- The sweep by a test on each entry alone: those that fail go, the others close up in their order.
use Rattle.std.specs.Prelude.{Bool, cond, List, [], ◌∷◌}
use Rattle.table.specs.declared.Entry.{Entry}

-- the entries that pass a test, each by itself
unfoldable pub kept_by : (Entry → Bool) → List Entry → List Entry
kept_by p [] = []
kept_by p (e ∷ es) = cond (p e) (e ∷ kept_by p es) (kept_by p es)
