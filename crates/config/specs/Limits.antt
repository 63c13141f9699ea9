-- Which limits are refused, and with which number (document 01, "Numbers that come from the input", 1 to 5).
use Rattle.std.specs.Prelude.{Result, Ok, Err, ⊤}
use Rattle.std.specs.Prelude.{Bool, false, cond, ℕ, ◌+◌, ◌*◌, eqb, leb, ltb}
use Rattle.config.specs.declared.PendingFlowsConfig.{PendingFlowsConfig}
use Rattle.config.specs.declared.ConfigRefusal.{ConfigRefusal}
use Rattle.config.specs.declared.ConfigRefusal.TheVariants.{NoTemplates, NoEntries, EntrySize, TotalBytes}
use Rattle.config.specs.declared.ConfigRefusal.TheVariants.{Areas}

-- document 01's number of each refusal
abbrev pub refusal_number : ConfigRefusal → ℕ
refusal_number NoTemplates = 1
refusal_number NoEntries = 2
refusal_number EntrySize = 3
refusal_number TotalBytes = 4
refusal_number Areas = 5

-- 0, or the number of the refusal
abbrev pub answer_number : Result ⊤ ConfigRefusal → ℕ
answer_number (Ok tt) = 0
answer_number (Err n) = refusal_number n

-- the words of the header, of a template's record, and of a body's entry
abbrev pub header_words : ℕ
header_words = 64

abbrev pub record_words : ℕ
record_words = 8

abbrev pub entry_words : ℕ
entry_words = 4

-- how many bodies there may be in all
abbrev pub max_bodies : PendingFlowsConfig → ℕ
max_bodies c = c.max_pending_flows * c.max_entries_per_template

-- "the area of 64-bit words needs 64 + 8 × templates + 4 × (templates × bodies per template)"
abbrev pub words_needed : PendingFlowsConfig → ℕ
words_needed c = header_words + record_words * c.max_pending_flows + entry_words * max_bodies c

-- the limits by themselves: 1 to 4 in order, or 0
unfoldable pub limits_number : PendingFlowsConfig → ℕ
limits_number c =
    cond (eqb c.max_pending_flows 0) 1
    (cond (eqb c.max_entries_per_template 0) 2
    (cond (eqb c.max_entry_size_bytes 0) 3
    (cond (ltb 65531 c.max_entry_size_bytes) 3
    (cond (eqb c.max_total_bytes 0) 4
    (cond (ltb c.max_total_bytes c.max_entry_size_bytes) 4
    0)))))

-- the tests of 5, for areas of so many bytes and words
unfoldable pub areas_hold : PendingFlowsConfig → ℕ → ℕ → Bool
areas_hold c bytes words =
    cond (ltb 1024 c.max_pending_flows) false
    (cond (ltb 262144 (max_bodies c)) false
    (cond (ltb 67108864 c.max_total_bytes) false
    (cond (ltb bytes c.max_total_bytes) false
    (leb (words_needed c) words))))

-- 1 to 5 in order; 0 where a cache can be opened with these limits in these areas
unfoldable pub config_number : PendingFlowsConfig → ℕ → ℕ → ℕ
config_number c bytes words =
    cond (eqb (limits_number c) 0) (cond (areas_hold c bytes words) 0 5) (limits_number c)
