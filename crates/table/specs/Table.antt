-- The table that words stand for. A template's bodies are the entries with its label, in table order, which is the
-- order of places and of arrival; records stand by recency, least recent first, and a handed-out template behind the
-- held ones.
use Rattle.std.specs.Prelude.{ℕ, zero, suc, ◌+◌, Bool, false, cond, ◌||◌, List, [], ◌∷◌, take, drop, ◌==◌}
use Rattle.config.specs.declared.PendingFlowsConfig.{PendingFlowsConfig}
use Rattle.config.specs.Limits.{record_words, entry_words}
use Rattle.table.specs.declared.Entry.{Entry}
use Rattle.table.specs.declared.TemplateRecord.{TemplateRecord}
use Rattle.table.specs.Layout.{word, limits_of, cached_word, dropped_word, total_word, held_count, entry_count}
use Rattle.table.specs.Layout.{chance_count, entries_at, records_at}

pub record Table : Type 0 where
  pub limits : PendingFlowsConfig
  pub cached : ℕ
  pub dropped : ℕ
  pub total : ℕ
  pub held : List TemplateRecord  -- least recent first
  pub handed : List TemplateRecord  -- none, or the template whose bodies may still be put back
  pub entries : List Entry  -- in place order

-- the entry, and the record, whose first word is at p
abbrev pub entry_at : List ℕ → ℕ → Entry
entry_at w p = record { label = word w p; place = word w (p + 1); len = word w (p + 2); clock = word w (p + 3) }

abbrev pub record_at : List ℕ → ℕ → TemplateRecord
record_at w p = record { key = word w p; label = word w (p + 1); count = word w (p + 2) }

-- k of them from word p on
unfoldable pub entries_from : List ℕ → ℕ → ℕ → List Entry
entries_from w p zero = []
entries_from w p (suc k) = entry_at w p ∷ entries_from w (p + entry_words) k

unfoldable pub records_from : List ℕ → ℕ → ℕ → List TemplateRecord
records_from w p zero = []
records_from w p (suc k) = record_at w p ∷ records_from w (p + record_words) k

-- the index: the fourth word of each record's place
unfoldable pub index_from : List ℕ → ℕ → ℕ → List ℕ
index_from w p zero = []
index_from w p (suc k) = word w (p + 3) ∷ index_from w (p + record_words) k

abbrev pub records : List ℕ → List TemplateRecord
records w = records_from w (records_at (limits_of w)) (held_count w + chance_count w)

abbrev pub index : List ℕ → List ℕ
index w = index_from w (records_at (limits_of w)) (held_count w + chance_count w)

abbrev pub table_of : List ℕ → Table
table_of w = record {
  limits = limits_of w;
  cached = cached_word w;
  dropped = dropped_word w;
  total = total_word w;
  held = take (held_count w) (records w);
  handed = drop (held_count w) (records w);
  entries = entries_from w entries_at (entry_count w);
}

-- whether a label is one of the records'
abbrev pub has_label : ℕ → List TemplateRecord → Bool
has_label k [] = false
has_label k (r ∷ rs) = k == r.label || has_label k rs

-- how many entries have a label
abbrev pub tally : ℕ → List Entry → ℕ
tally k [] = 0
tally k (e ∷ es) = cond (k == e.label) (suc (tally k es)) (tally k es)

-- the lengths of the entries that belong to these records
abbrev pub sum_lens : List TemplateRecord → List Entry → ℕ
sum_lens rs [] = 0
sum_lens rs (e ∷ es) = cond (has_label e.label rs) e.len 0 + sum_lens rs es
