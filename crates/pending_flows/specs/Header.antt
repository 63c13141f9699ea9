-- The header of a cache: the first words, in the layout's order.
use Rattle.std.specs.Prelude.{Option, Some, None}
use Rattle.std.specs.Prelude.{◌≡◌, List, [], ◌∷◌, ℕ, ◌+◌, ◌*◌, ◌≤◌, true, length}
use Rattle.config.specs.declared.PendingFlowsConfig.{PendingFlowsConfig}
use Rattle.config.specs.Limits.{record_words, entry_words, max_bodies}
use Rattle.table.specs.Layout.{entries_at, records_at, limits_of, cached_word, dropped_word, total_word, held_count, entry_count, chance_count}
use Rattle.table.specs.WellFormed.{well_formed}
use Rattle.pending_flows.specs.declared.header.HeaderFigures.{HeaderFigures}
use Rattle.pending_flows.specs.declared.header.Header.{Header}

-- whether a TTL is set, and the TTL, as words
abbrev pub ttl_flag : Option ℕ → ℕ
ttl_flag None = 0
ttl_flag (Some t) = 1

abbrev pub ttl_word : Option ℕ → ℕ
ttl_word None = 0
ttl_word (Some t) = t

-- the word of `pending_dropped`
abbrev pub dropped_at : ℕ
dropped_at = 7

-- the figures that words hold
abbrev pub figures_at : List ℕ → HeaderFigures
figures_at w = record {
  cached = cached_word w;
  dropped = dropped_word w;
  total = total_word w;
  templates = held_count w;
  entries = entry_count w;
  chance = chance_count w;
}

-- the header that words hold
abbrev pub header_at : List ℕ → Header
header_at w = record { limits = limits_of w; figures = figures_at w }

-- the areas, with so many bytes, hold a well-formed cache, and this is its header
pub record HoldsCache (h : Header) (w : List ℕ) (bytes : ℕ) : Type 0 where
  pub legal : well_formed w bytes ≡ true
  pub limits : h.limits ≡ limits_of w
  pub figures : h.figures ≡ figures_at w

-- the entries and records that a header tells of lie within the words
pub record HoldsRows (h : Header) (w : List ℕ) : Type 0 where
  pub bodies_few : max_bodies h.limits ≤ 262144
  pub entries_within : entries_at + entry_words * h.figures.entries ≤ length w
  pub records_within : records_at h.limits + record_words * (h.figures.templates + h.figures.chance) ≤ length w

-- the header's words
abbrev pub header_of : PendingFlowsConfig → HeaderFigures → List ℕ
header_of l f =
    l.max_pending_flows ∷ l.max_entries_per_template ∷ l.max_entry_size_bytes ∷ l.max_total_bytes
    ∷ ttl_flag l.ttl ∷ ttl_word l.ttl ∷ f.cached ∷ f.dropped ∷ f.total ∷ f.templates ∷ f.entries
    ∷ f.chance ∷ []

abbrev pub words_of : Header → List ℕ
words_of h = header_of h.limits h.figures

-- of a newly opened cache
abbrev pub no_figures : HeaderFigures
no_figures = record { cached = 0; dropped = 0; total = 0; templates = 0; entries = 0; chance = 0 }

abbrev pub opened_header : PendingFlowsConfig → List ℕ
opened_header l = header_of l no_figures
