-- The figures of a cache, read off a well-formed table. Assumes nothing.
use mathlib.Core.Path.{◌≡◌, refl, ap, sym, ◌∙◌}
use mathlib.Core.Bool.{true}
use mathlib.Core.List.{List, [], ◌∷◌}
use Prim.Native.Nat.{ℕ, ◌+◌, ◌*◌, ◌-◌, ◌≤◌}
use native.Mathlib.Omega.{arith}
use lib.ListN.{length}
use Rattle.config.specs.Limits.{record_words}
use Rattle.config.proofs.Lists.{All, all_back}
use Rattle.table.specs.declared.TemplateRecord.{TemplateRecord}
use Rattle.table.specs.Layout.{limits_of, cached_word, dropped_word, total_word, held_count, entry_count, chance_count}
use Rattle.table.specs.Layout.{records_at}
use Rattle.table.specs.Table.{table_of, tally}
use Rattle.table.specs.WellFormed.{well_formed}
use Rattle.table.specs.Reads.{count_sum}
use Rattle.table.proofs.Words.{first_records, length_records, records_behind}
use Rattle.table.proofs.Facts.{LegalWords, words_say, differ_front}
use Rattle.cache_model.specs.Bodies.{byte_total}
use Rattle.cache_model.specs.Cache.{tells}
use Rattle.cache_model.specs.Queries.{figures}
use Rattle.pending_flows.specs.declared.header.Header.{Header}
use Rattle.pending_flows.specs.Header.{HoldsCache}
use Rattle.pending_flows.specs.View.{templates_at, chance_at, cache_of, areas_of, view}
use Rattle.pending_flows.proofs.Templates.{length_bodies, length_templates}
use Rattle.pending_flows.proofs.Weights.{weights_agree, len, lens_weigh}
use Rattle.pending_flows.proofs.Figures.{sized, total_weighs, counts_right, bodies_read}
use Rattle.pending_queries.specs.declared.CacheFigures.{CacheFigures}
use Rattle.pending_queries.specs.Queries.{figures_record, asked}
use Rattle.pending_queries.proofs.Answers.{answered}

module _ (w b : List ℕ) (ok : well_formed w (length b) ≡ true) where
  legal : LegalWords w (length b)
  legal = words_say w (length b) ok

  templates_read : held_count w ≡ length (templates_at b (table_of w).entries (table_of w).held)
  templates_read =
      sym
      (length_templates b (table_of w).entries (table_of w).held
      ∙ ap length (first_records w (records_at (limits_of w)) (held_count w) (chance_count w))
      ∙ length_records w (records_at (limits_of w)) (held_count w))

  total_read : total_word w ≡ byte_total (templates_at b (table_of w).entries (table_of w).held)
  total_read =
      let t = table_of w in
      let s = sized b 0 t.limits.max_total_bytes t.entries legal.limits_legal_lem.bytes_enough
      legal.table_legal_lem.entries_placed in
      legal.table_legal_lem.total_right
      ∙ lens_weigh t.held t.entries
      ∙ sym (weights_agree len t.held t.entries
      (differ_front (λ r. r.label) t.held t.handed legal.table_legal_lem.labels_differ))
      ∙ sym (total_weighs b t.entries t.held s)

  handed_long : length (table_of w).handed ≡ chance_count w
  handed_long =
      let n = held_count w in
      ap length (records_behind w (records_at (limits_of w)) n (chance_count w))
      ∙ length_records w (records_at (limits_of w) + record_words * n) (chance_count w)

  handed_counted : (rs : List TemplateRecord) → length rs ≤ 1 →
      All (λ r. r.count ≡ tally r.label (table_of w).entries) rs →
      count_sum rs ≡ length (chance_at b (table_of w).entries rs).bodies
  unfolding count_sum
  handed_counted [] h c = refl
  handed_counted (r ∷ []) h c = let e = c.0 in omega (arith, length_bodies b r.label (table_of w).entries)
  handed_counted (r ∷ s ∷ rs) h c = absurd (omega arith)

  handed_read : {h : ℕ} → h ≡ count_sum (table_of w).handed →
      h ≡ length (chance_at b (table_of w).entries (table_of w).handed).bodies
  handed_read e =
      e ∙ handed_counted (table_of w).handed (omega (arith, handed_long, legal.chance_flag))
      (all_back _ (table_of w).held (table_of w).handed (counts_right w b ok))

  -- the figures as they are read
  abbrev read_figures : ℕ → CacheFigures
  read_figures h = record {
    templates = held_count w;
    bodies = entry_count w - h;
    bytes = total_word w;
    cached = cached_word w;
    dropped = dropped_word w;
    handed = h;
  }

  pub figures_read : (h : ℕ) → h ≡ count_sum (table_of w).handed →
      figures_record (read_figures h) ≡ figures (cache_of (table_of w) b)
  unfolding figures
  figures_read h e = λ i. record {
    templates = templates_read i;
    bodies = bodies_read w b ok e i;
    bytes = total_read i;
    cached = cached_word w;
    dropped = dropped_word w;
    handed = handed_read e i;
  }

-- The figures' call on a well-formed cache.
pub figures_told : (w b : List ℕ) (f : CacheFigures) {h : Header} → HoldsCache h w (length b) →
    figures_record f ≡ figures (cache_of (table_of w) b) →
    tells (figures_record f) ≡ asked (λ c. tells (figures c)) (view (areas_of w b))
figures_told w b f holds e = ap tells e ∙ answered (λ c. tells (figures c)) w b holds.legal
