-- When words, beside so many bytes, hold a well-formed table: number 28 answers where they do not.
-- docs/LAYOUT.md maps each fault of document 01's list to its test.
use Rattle.std.specs.Prelude.{ℕ, ◌+◌, Bool, true, not, ◌&&◌, List, [], ◌∷◌, ◌++◌, length, ◌==◌, nat_le, nat_lt, slice_index_or}
use Rattle.std.specs.List.{list_all}
use Rattle.config.specs.declared.PendingFlowsConfig.{PendingFlowsConfig}
use Rattle.config.specs.Limits.{header_words, max_bodies, config_number}
use Rattle.table.specs.declared.Entry.{Entry}
use Rattle.table.specs.declared.TemplateRecord.{TemplateRecord}
use Rattle.table.specs.Layout.{limits_of, ttl_set, held_count, entry_count, chance_count}
use Rattle.table.specs.Table.{Table, table_of, index, has_label, tally, sum_lens}

-- no two records have the same figure
abbrev pub all_differ : (TemplateRecord → ℕ) → List TemplateRecord → Bool
all_differ f [] = true
all_differ f (r ∷ rs) = list_all (λ u. not (f r == f u)) rs && all_differ f rs

-- the limits are legal for these areas
abbrev pub limits_legal : List ℕ → ℕ → Bool
limits_legal w bytes = config_number (limits_of w) bytes (length w) == 0

-- encoding: two words are flags
abbrev pub flags_legal : List ℕ → Bool
flags_legal w = nat_le (ttl_set w) 1 && nat_le (chance_count w) 1

-- no more templates than configured, the handed-out one counted, and room for the entries
abbrev pub counts_legal : List ℕ → Bool
counts_legal w =
    nat_le (held_count w + chance_count w) (limits_of w).max_pending_flows && nat_le (entry_count w) (max_bodies (limits_of w))

-- a 16-bit id; encoding: a label below 1,024, and the number of its entries; from one body to the cap
abbrev pub record_legal : PendingFlowsConfig → List Entry → TemplateRecord → Bool
record_legal l es r =
    nat_lt r.key 65536 && (nat_lt r.label 1024 && (r.count == tally r.label es &&
    (nat_lt 0 r.count && nat_le r.count l.max_entries_per_template)))

-- encoding: an entry has a record; no body over the entry size
abbrev pub entry_legal : PendingFlowsConfig → List TemplateRecord → Entry → Bool
entry_legal l rs e = has_label e.label rs && nat_le e.len l.max_entry_size_bytes

-- places rise, bodies do not overlap, and all end within so many bytes
abbrev pub places_legal : ℕ → ℕ → List Entry → Bool
places_legal from most [] = true
places_legal from most (e ∷ es) = nat_le from e.place && (nat_le (e.place + e.len) most && places_legal
    (e.place + e.len) most es)

-- the stored total is the sum of held lengths
abbrev pub total_right : Table → Bool
total_right t = t.total == sum_lens t.held t.entries

-- encoding: the index lists each record's position once, in rising order of keys
abbrev pub key_at : List TemplateRecord → ℕ → ℕ
key_at rs i = (slice_index_or rs i (record { key = 0; label = 0; count = 0 })).key

unfoldable pub index_rises : List TemplateRecord → ℕ → List ℕ → Bool
index_rises rs low [] = true
index_rises rs low (i ∷ is) = nat_lt i (length rs) && (nat_le low (key_at rs i) && index_rises rs (key_at rs i + 1) is)

abbrev pub table_legal : Table → List ℕ → Bool
table_legal t is =
    list_all (record_legal t.limits t.entries) (t.held ++ t.handed) &&
    (all_differ (λ r. r.key) (t.held ++ t.handed) && (all_differ (λ r. r.label) (t.held ++ t.handed) &&
    (list_all (entry_legal t.limits (t.held ++ t.handed)) t.entries &&
    (places_legal 0 t.limits.max_total_bytes t.entries &&
    (total_right t && index_rises (t.held ++ t.handed) 0 is)))))

-- all of it
unfoldable pub well_formed : List ℕ → ℕ → Bool
well_formed w bytes =
    nat_le header_words (length w) && (limits_legal w bytes && (flags_legal w && (counts_legal w && table_legal (table_of w)
    (index w))))
