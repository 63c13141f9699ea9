-- What a cut leaves of rows: the templates that the model's cut leaves. Assumes nothing.
use mathlib.Core.Path.{◌≡◌, refl, sym, ap, ◌∙◌}
use mathlib.Core.Bool.{Bool, true, false, cond}
use mathlib.Core.List.{List, [], ◌++◌, append-nil}
use Prim.Native.Nat.{ℕ, ◌+◌, ◌*◌, ◌-◌, ◌≤◌, ◌<◌}
use native.Mathlib.Omega.{arith}
use lib.ListN.{length, get_or, take, drop, length-replicate, length-drop, drop_of_length-le}
use Rattle.config.specs.declared.PendingFlowsConfig.{PendingFlowsConfig}
use Rattle.config.specs.Limits.{record_words}
use Rattle.config.proofs.Lists.{All, all_both, all_front, all_back}
use Rattle.table.specs.declared.Entry.{Entry}
use Rattle.table.specs.declared.TemplateRecord.{TemplateRecord}
use Rattle.table.specs.Layout.{entries_at}
use Rattle.table.specs.Table.{entries_from, records_from, has_label}
use Rattle.table.proofs.Words.{length_entries}
use Rattle.table.proofs.Facts.{Differ, differ_front}
use Rattle.table.proofs.Labels.{own_labels, labels_apart}
use Rattle.table_entries.specs.declared.StayTest.{StayTest}
use Rattle.table_entries.specs.Sums.{summed}
use Rattle.table_entries.specs.Sweep.{swept}
use Rattle.table_entries.proofs.Lengths.{placed_wider, label_count_most}
use Rattle.table_records.specs.Close.{closed}
use Rattle.table_records.specs.Choose.{skip_all, skipping, skipping_over}
use Rattle.table_records.proofs.Frames.{records_add}
use Rattle.table_records.proofs.Skips.{length_skipping, length_skipping_over, skipping_at, skipping_over_at}
use Rattle.cache_model.specs.Bodies.{Body, Template, keep}
use Rattle.cache_model.specs.Calls.{cut}
use Rattle.cache_model.proofs.Thinning.{has_id}
use Rattle.cache_model.proofs.Shrinking.{cut_bodies, cut_thinned}
use Rattle.pending_flows.specs.View.{bodies_at, templates_at}
use Rattle.pending_flows.proofs.Templates.{length_templates}
use Rattle.pending_calls.specs.declared.removal.Removed.{Removed}
use Rattle.table_view.proofs.Swept.{body_stays, Within, placed_within}
use Rattle.table_view.proofs.Summed.{label_count, summed_count}
use Rattle.table_view.proofs.Closed.{closed_append, closed_none}
use Rattle.table_view.proofs.Stored.{ids_differ}
use Rattle.resize_steps.specs.Removing.{zeros, counts_of}
use Rattle.resize_steps.specs.Cut.{small_enough, cut_skips, Cuts}
use Rattle.resize_steps.proofs.Steps.{cut_skips_long}
use Rattle.resize_steps.proofs.Rows.{Rows, rows_left, count_left, templates_left}
use Rattle.resize_steps.proofs.Chosen.{first_alike, small_kept}

module _ (l : PendingFlowsConfig) (p n c m most : ℕ) (w b : List ℕ) (h : Rows p (n + c) m most w)
    (lent : most ≤ length b) where
  abbrev held : List TemplateRecord
  held = records_from w p n

  abbrev handed : List TemplateRecord
  handed = records_from w (p + record_words * n) c

  abbrev es : List Entry
  es = entries_from w entries_at m

  abbrev q : StayTest
  q = small_enough l

  abbrev skip : List ℕ
  skip = cut_skips l held handed es zeros

  abbrev leaving : ℕ
  leaving = length held - l.max_pending_flows

  abbrev ts : List Template
  ts = templates_at b es held

  all_are : records_from w p (n + c) ≡ held ++ handed
  all_are = records_add w p n c

  within : Within (length b) es
  within = placed_within 0 (length b) es (placed_wider 0 most (length b) es lent h.placed)

  abbrev kept : ℕ → List Body
  kept j = keep (body_stays q j) (bodies_at b j es)

  few : (j : ℕ) → length (kept j) ≤ skip_all
  few j =
      omega (arith, label_count b q j es within, label_count_most q j es, length_entries w entries_at m, h.entries_few)

  none_left : (j : ℕ) → drop skip_all (kept j) ≡ []
  none_left j = drop_of_length-le (kept j) {i = skip_all} (few j)

  -- what is skipped of a label
  skip_at : (j : ℕ) → j < 1024 → get_or skip j 0
      ≡ cond (has_label j handed) skip_all
      (cond (has_label j (take leaving held)) skip_all
      (cond (has_label j held) (length (kept j) - l.max_entries_per_template) (get_or zeros j 0)))
  unfolding cut_skips
  skip_at j small =
      let cap = l.max_entries_per_template in
      let counts = summed q false zeros es in
      let over = skipping_over cap counts zeros held in
      let long : length zeros ≡ 1024 = length-replicate {A = ℕ} 1024 0 in
      let over-long : length over ≡ 1024 = length_skipping_over cap counts zeros held ∙ long in
      let first_long : length (skipping over (take leaving held)) ≡ 1024 =
      length_skipping over (take leaving held) ∙ over-long in
      let counted : get_or counts j 0 ≡ length (kept j) =
      summed_count b q j small es within (omega (arith, length_entries w entries_at m, h.entries_few)) in
      skipping_at j (skipping over (take leaving held)) handed (omega arith)
      ∙ rw (
        skipping_at j over (take leaving held) (omega arith),
        skipping_over_at j cap counts zeros held (omega arith),
        counted,
      )

  -- the bodies of a held record
  one_cut : (r : TemplateRecord) → r.label < 1024 → has_label r.label handed ≡ false →
      has_label r.label held ≡ true → has_label r.label (take leaving held) ≡ has_id r.key (take leaving ts) →
      drop (get_or skip r.label 0) (kept r.label) ≡ cut_bodies l ts r.key (bodies_at b r.label es)
  one_cut r small apart own alike =
      let many : length ts ≡ length held = length_templates b es held in
      rw (skip_at r.label small, apart, own, alike, many, ← small_kept l r.label (bodies_at b r.label es))
      (by_test (has_id r.key (take leaving ts)))
    where
      cap : ℕ
      cap = l.max_entries_per_template

      xs : List Body
      xs = kept r.label

      by_test : (x : Bool) → drop (cond x skip_all (length xs - cap)) xs ≡ cond x [] (drop (length xs - cap) xs)
      by_test true = none_left r.label
      by_test false = refl

  all_labels : All (λ r. r.label < 1024) (held ++ handed)
  all_labels = rw all_are at h.tied.labels_small

  labels_differ : Differ (λ r. r.label) (held ++ handed)
  labels_differ = rw all_are at h.tied.labels_differ

  keys_differ : Differ (λ r. r.key) held
  keys_differ = differ_front (λ r. r.key) held handed (rw all_are at h.tied.keys_differ)

  held_cut : All (λ r. drop (get_or skip r.label 0) (kept r.label)
      ≡ cut_bodies l ts r.key (bodies_at b r.label es)) held
  held_cut =
      let small = all_front (λ r. r.label < 1024) held handed all_labels in
      let labels = differ_front (λ r. r.label) held handed labels_differ in
      all_both _ _ _ (λ r x y. one_cut r x.0 x.1 y.0 y.1) held
      (all_both _ _ (λ r. (r.label < 1024) × (has_label r.label handed ≡ false)) (λ r x y. (x, y)) held small
      (labels_apart held handed labels_differ))
      (all_both _ _ (λ r. (has_label r.label held ≡ true)
      × (has_label r.label (take leaving held) ≡ has_id r.key (take leaving ts))) (λ r x y. (x, y)) held
      (own_labels held) (first_alike b es leaving held keys_differ labels))

  long : length skip ≡ 1024
  long = cut_skips_long l held handed es skip refl

  abbrev stay : List Entry
  stay = swept q skip es

  -- a handed-out record does not remain
  handed_leaving : closed (counts_of stay) handed ≡ []
  handed_leaving =
      closed_none (counts_of stay) handed
      (all_both {A = TemplateRecord} (λ r. r.label < 1024) (λ r. has_label r.label handed ≡ true)
      (λ r. get_or (counts_of stay) r.label 0 ≡ 0)
      (λ r small own.
      let all : get_or skip r.label 0 ≡ skip_all = skip_at r.label small ∙ rw own in
      omega (
        arith,
        count_left h q skip b lent long r.label small,
        length-drop (get_or skip r.label 0) (kept r.label),
        few r.label,
      ))
      handed (all_back (λ r. r.label < 1024) held handed all_labels) (own_labels handed))

  module _ (some : 0 < l.max_entries_per_template) {w' : List ℕ} {r : Removed} (s : Cuts l p n c m w w' r) where
    pub cut_rows : Rows p r.records r.entries most w'
    cut_rows = rows_left h q skip s

    pub cut_templates : templates_at b (entries_from w' entries_at r.entries) (records_from w' p r.records)
        ≡ (cut l ts).held
    cut_templates =
        let small = all_front (λ r. r.label < 1024) held handed all_labels in
        let remain : records_from w' p r.records ≡ closed (counts_of stay) held =
        s.records ∙ ap (closed (counts_of stay)) all_are ∙ closed_append (counts_of stay) held handed
        ∙ rw (handed_leaving, append-nil) in
        rw (s.entries, remain)
        (templates_left h q skip b lent long (cut_bodies l ts) held small held_cut
        ∙ sym (cut_thinned l ts (ids_differ b es held keys_differ) some))
