-- What is read off the records and entries of a table.
use Rattle.std.specs.Prelude.{Option, Some, None}
use Rattle.std.specs.Prelude.{ℕ, ◌+◌, ◌%◌, ◌^◌, Bool, cond, not, ◌&&◌, List, [], ◌∷◌, ◌==◌}
use Rattle.std.specs.List.{find}
use Rattle.config.specs.Age.{expired_at}
use Rattle.table.specs.declared.Entry.{Entry}
use Rattle.table.specs.declared.TemplateRecord.{TemplateRecord}
use Rattle.table.specs.declared.LiveFigures.{LiveFigures}

-- the record with a key
abbrev pub record_of : ℕ → List TemplateRecord → Option TemplateRecord
record_of key rs = find (λ r. key == r.key) rs

-- of a record that was found: its label, and how many bodies it counts
abbrev pub label_in : Option TemplateRecord → Option ℕ
label_in (Some r) = Some r.label
label_in None = None

abbrev pub count_in : Option TemplateRecord → ℕ
count_in (Some r) = r.count
count_in None = 0

-- the label of the record with a key
unfoldable pub label_of : ℕ → List TemplateRecord → Option ℕ
label_of key [] = None
label_of key (r ∷ rs) = cond (key == r.key) (Some r.label) (label_of key rs)

-- the label that was found; else what is no label
abbrev pub label_or_none : Option ℕ → ℕ
label_or_none (Some k) = k
label_or_none None = 1024

-- how many bodies the record with a key counts; 0 where there is none
unfoldable pub count_of : ℕ → List TemplateRecord → ℕ
count_of key [] = 0
count_of key (r ∷ rs) = cond (key == r.key) r.count (count_of key rs)

-- an entry of this label that is not expired
abbrev pub is_live : Option ℕ → ℕ → ℕ → Entry → Bool
is_live ttl now label e = label == e.label && not (expired_at ttl now e.clock)

-- how many there are, and their lengths together; both, the lengths in a word, which wraps
unfoldable pub live_count : Option ℕ → ℕ → ℕ → List Entry → ℕ
live_count ttl now label [] = 0
live_count ttl now label (e ∷ es) = cond (is_live ttl now label e) 1 0 + live_count ttl now label es

unfoldable pub live_lens : Option ℕ → ℕ → ℕ → List Entry → ℕ
live_lens ttl now label [] = 0
live_lens ttl now label (e ∷ es) = cond (is_live ttl now label e) e.len 0 + live_lens ttl now label es

abbrev pub live_figures : Option ℕ → ℕ → ℕ → List Entry → LiveFigures
live_figures ttl now label es = record {
  bodies = live_count ttl now label es;
  bytes = live_lens ttl now label es % 2 ^ 64;
}

-- the bodies of these records, by their counts
unfoldable pub count_sum : List TemplateRecord → ℕ
count_sum [] = 0
count_sum (r ∷ rs) = r.count + count_sum rs
