-- Rows of words: records with their index, and entries, that belong together, whatever the header says; and what a
-- removal leaves of them. Assumes nothing.
use mathlib.Core.Path.{◌≡◌, sym, ap, ◌∙◌}
use mathlib.Core.List.{List}
use Prim.Native.Nat.{ℕ, ◌≤◌, ◌<◌}
use native.Mathlib.Omega.{arith}
use lib.ListN.{length, get_or, drop}
use Rattle.config.proofs.Lists.{All, all_both}
use Rattle.table.specs.declared.Entry.{Entry}
use Rattle.table.specs.declared.TemplateRecord.{TemplateRecord}
use Rattle.table.specs.Layout.{entries_at}
use Rattle.table.specs.Table.{entries_from, records_from, index_from, tally}
use Rattle.table.proofs.Words.{length_entries, length_records}
use Rattle.table.proofs.Facts.{Placed}
use Rattle.table_entries.specs.declared.StayTest.{StayTest}
use Rattle.table_entries.specs.Sums.{sum_most, lens_sum}
use Rattle.table_entries.specs.Sweep.{swept}
use Rattle.table_entries.proofs.Lengths.{placed_wider}
use Rattle.table_entries.proofs.Swept.{placed_swept, length_swept, all_swept}
use Rattle.table_records.specs.Close.{closed, positions, remapped}
use Rattle.table_records.proofs.ClosedIndex.{index_after_closing}
use Rattle.cache_model.specs.Bodies.{Body, keep}
use Rattle.cache_model.proofs.Thinning.{thinned}
use Rattle.pending_flows.specs.View.{bodies_at, templates_at}
use Rattle.pending_calls.specs.declared.removal.Removed.{Removed}
use Rattle.table_view.proofs.Tied.{Tied, no_label_tied}
use Rattle.table_view.proofs.Removed.{placed_short, label_counts_lem, counts_but_none}
use Rattle.table_view.proofs.Removed.{removed_apart}
use Rattle.table_view.proofs.Swept.{body_stays, Within, placed_within, swept_bodies, swept_tally}
use Rattle.table_view.proofs.Closed.{closed_templates}
use Rattle.table_view.proofs.Summed.{len_most}
use Rattle.pending_calls.proofs.RemovedLemmas.{bytes_left}
use Rattle.resize_steps.specs.Removing.{counts_of, RemovesSkipped}

-- k records from word p on and m entries; their bodies end within `most` bytes
pub record Rows (p k m most : ℕ) (w : List ℕ) : Type 0 where
  pub tied : Tied (records_from w p k) (entries_from w entries_at m) (index_from w p k)
  pub placed : Placed 0 most (entries_from w entries_at m)
  pub records_few : k ≤ 1024
  pub entries_few : m ≤ 262144
  pub bytes_few : most ≤ 67108864

module _ {p k m most : ℕ} {w : List ℕ} (h : Rows p k m most w) (q : StayTest) (skip : List ℕ) where
  abbrev rs : List TemplateRecord
  rs = records_from w p k

  abbrev es : List Entry
  es = entries_from w entries_at m

  abbrev stay : List Entry
  stay = swept q skip es

  few : length es ≤ sum_most
  few = omega (arith, h.entries_few, length_entries w entries_at m)

  short : All (λ e. e.len ≤ len_most) es
  short = placed_short 0 most len_most es (omega (arith, h.bytes_few)) h.placed

  -- how many entries of a label stay
  counts_tally : (j : ℕ) → j < 1024 → get_or (counts_of stay) j 0 ≡ tally j stay
  counts_tally j small =
      ap (λ (l : List ℕ). get_or l j 0) (counts_but_none stay)
      ∙ label_counts_lem stay (omega (arith, few, length_swept q skip es))
      (all_swept (λ e. e.len ≤ len_most) q skip es short) j small

  module _ {w' : List ℕ} {r : Removed} (s : RemovesSkipped q p k m skip w w' r) where
    left_tied : Tied (records_from w' p r.records) (entries_from w' entries_at r.entries)
        (index_from w' p r.records)
    left_tied =
        let is = index_from w p k in
        let kept = counts_of stay in
        let many : length rs ≡ k = length_records w p k in
        let index = index_after_closing kept rs is h.tied.index_right h.tied.index_long
        (omega (arith, h.records_few)) in
        let long : length (remapped (positions kept 0 rs) is) ≡ r.records =
        index.1 ∙ ap length (sym s.records) ∙ length_records w' p r.records in
        let read : index_from w' p r.records ≡ remapped (positions kept 0 rs) is =
        ap (index_from w' p) (sym long) ∙ s.index in
        rw (s.records, s.entries, read)
        (no_label_tied (removed_apart q skip h.tied few short 1024 index.0 index.1))

    pub rows_left : Rows p r.records r.entries most w'
    rows_left = record {
      tied = left_tied;
      placed = rw s.entries (placed_swept q skip 0 most es h.placed);
      records_few = omega (arith, s.few_records, h.records_few);
      entries_few = omega (arith, s.few_entries, h.entries_few);
      bytes_few = h.bytes_few;
    }

    pub lens_left : r.bytes ≡ lens_sum (entries_from w' entries_at r.entries)
    lens_left =
        bytes_left h.tied most h.placed h.records_few (omega (arith, h.entries_few))
        (omega (arith, h.bytes_few)) s

  -- the templates of records, where the bodies of each are told
  module _ (b : List ℕ) (lent : most ≤ length b) (long : length skip ≡ 1024) where
    within : Within (length b) es
    within = placed_within 0 (length b) es (placed_wider 0 most (length b) es lent h.placed)

    abbrev left_of : ℕ → List Body
    left_of j = drop (get_or skip j 0) (keep (body_stays q j) (bodies_at b j es))

    pub count_left : (j : ℕ) → j < 1024 → get_or (counts_of stay) j 0 ≡ length (left_of j)
    count_left j small = counts_tally j small ∙ swept_tally b q j skip es (omega arith) within

    pub templates_left : (f : ℕ → List Body → List Body) (xs : List TemplateRecord) → All (λ r. r.label < 1024) xs →
        All (λ r. left_of r.label ≡ f r.key (bodies_at b r.label es)) xs →
        templates_at b stay (closed (counts_of stay) xs) ≡ thinned f (templates_at b es xs)
    templates_left f xs small same =
        closed_templates b (counts_of stay) es stay xs f
        (all_both _ _ _
        (λ r j e. (
          count_left r.label j ∙ ap length e,
          λ _. swept_bodies b q r.label skip es (omega arith) within ∙ e,
        )) xs small same)
