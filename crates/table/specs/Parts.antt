-- Entries and records whose words stand each by itself.
use Rattle.std.specs.Prelude.{ℕ, List, map}
use Rattle.table.specs.declared.Entry.{Entry}
use Rattle.table.specs.declared.TemplateRecord.{TemplateRecord}
use Rattle.table.specs.Layout.{word}
use Rattle.table.specs.Table.{entry_at, record_at}

-- the entry, and the record, that words are
abbrev pub entry_of : List ℕ → Entry
entry_of w = entry_at w 0

abbrev pub template_of : List ℕ → TemplateRecord
template_of w = record_at w 0

abbrev pub entries_of : List (List ℕ) → List Entry
entries_of ws = map entry_of ws

abbrev pub templates_of : List (List ℕ) → List TemplateRecord
templates_of ws = map template_of ws

-- the index: the fourth word of each record's place
abbrev pub index_of : List (List ℕ) → List ℕ
index_of ws = map (λ w. word w 3) ws
