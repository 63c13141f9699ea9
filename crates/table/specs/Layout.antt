-- Where the words of a table stand (docs/LAYOUT.md).
use Rattle.std.specs.Prelude.{Option, Some, None}
use Rattle.std.specs.Prelude.{ℕ, ◌+◌, ◌*◌, cond, List, ◌==◌, slice_index}
use Rattle.config.specs.declared.PendingFlowsConfig.{PendingFlowsConfig}
use Rattle.config.specs.Limits.{header_words, entry_words, max_bodies}

abbrev pub word : List ℕ → ℕ → ℕ
word w i = slice_index w i

-- the header's words
abbrev pub ttl_set : List ℕ → ℕ
ttl_set w = word w 4

abbrev pub cached_word : List ℕ → ℕ
cached_word w = word w 6

abbrev pub dropped_word : List ℕ → ℕ
dropped_word w = word w 7

abbrev pub total_word : List ℕ → ℕ
total_word w = word w 8

-- how many records are held templates, how many entries there are, and whether one more record is handed out
abbrev pub held_count : List ℕ → ℕ
held_count w = word w 9

abbrev pub entry_count : List ℕ → ℕ
entry_count w = word w 10

abbrev pub chance_count : List ℕ → ℕ
chance_count w = word w 11

abbrev pub ttl_of : ℕ → ℕ → Option ℕ
ttl_of set ttl = cond (set == 0) None (Some ttl)

abbrev pub limits_of : List ℕ → PendingFlowsConfig
limits_of w = record {
  max_pending_flows = word w 0;
  max_entries_per_template = word w 1;
  max_entry_size_bytes = word w 2;
  max_total_bytes = word w 3;
  ttl = ttl_of (ttl_set w) (word w 5);
}

-- entries stand from here on, and records behind the room for all entries
abbrev pub entries_at : ℕ
entries_at = header_words

abbrev pub records_at : PendingFlowsConfig → ℕ
records_at c = header_words + entry_words * max_bodies c
