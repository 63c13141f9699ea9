-- What the passes over records and entries share.
use Rattle.std.specs.Prelude.{Option, Some, None}
use Rattle.std.specs.Prelude.{ℕ, ◌-◌, cond, List, [], ◌∷◌, ◌==◌, slice_index, slice_set}
use Rattle.table.specs.declared.Entry.{Entry}
use Rattle.table.specs.declared.TemplateRecord.{TemplateRecord}
use Rattle.table.specs.Reads.{label_or_none}

-- the first record's label, and the same with what is no label where there is none
abbrev pub label_of_first : List TemplateRecord → Option ℕ
label_of_first [] = None
label_of_first (r ∷ rs) = Some r.label

abbrev pub first_label : List TemplateRecord → ℕ
first_label rs = label_or_none (label_of_first rs)

-- what an entry adds to the total: nothing where it is handed out
unfoldable pub held_len : ℕ → Entry → ℕ
held_len out e = cond (e.label == out) 0 e.len

-- one less at i
abbrev pub less_at : List ℕ → ℕ → List ℕ
less_at l i = slice_set l i (slice_index l i - 1)
