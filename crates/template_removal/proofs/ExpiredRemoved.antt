-- The removal of the expired bodies of a label, from the steps of the code: its expired entries are swept, and its
-- record is taken off, where there is one. Assumes nothing.
use Rattle.std.proofs.Common.{Option}
use mathlib.Core.Path.{◌≡◌, refl, sym, ap, ◌∙◌}
use mathlib.Core.Bool.{Bool, true, false, cond}
use mathlib.Core.List.{List}
use Prim.Native.Nat.{ℕ, ◌+◌, ◌*◌, ◌-◌, ◌^◌, ◌≤◌, ◌<◌}
use native.Mathlib.Omega.{arith}
use lib.Dec.{eqb, ltb}
use lib.ListN.{length, get_or, replicate, length-replicate, get_or-replicate, get_or-eq_default}
use lib.Seq.{get_or-set_other}
use borrow.Author.Tests.{eqb-true, eqb-false, ltb-true, ltb-false, ne_eqb, le-leb}
use Rattle.config.specs.Limits.{record_words, entry_words}
use Rattle.config.proofs.Lists.{All, all_map, all_both}
use Rattle.table.specs.declared.Entry.{Entry}
use Rattle.table.specs.declared.TemplateRecord.{TemplateRecord}
use Rattle.table.specs.Layout.{limits_of, held_count, entry_count, chance_count, entries_at, records_at}
use Rattle.table.specs.Table.{record_at, entries_from, records_from, index_from, tally}
use Rattle.table.specs.WellFormed.{well_formed}
use Rattle.table.proofs.Words.{length_entries, length_records}
use Rattle.table.proofs.Facts.{LegalWords, words_say}
use Rattle.table.proofs.Labels.{tally_most, absent_tally}
use Rattle.table_entries.specs.declared.StayTest.{StayTest}
use Rattle.table_entries.specs.declared.sweeps.Kept.{Kept}
use Rattle.table_entries.specs.Stays.{stays}
use Rattle.table_entries.specs.Sweep.{swept, KeepsOnly}
use Rattle.table_entries.proofs.LabelSums.{length_summed, zeros}
use Rattle.entry_sweeps.specs.KeptBy.{kept_by}
use Rattle.entry_sweeps.proofs.KeptBy.{swept_unskipped, length_kept_by, all_kept_by, OthersPass, kept_others}
use Rattle.entry_sweeps.proofs.KeptBy.{kept_fewer}
use Rattle.table_records.specs.Close.{Closes}
use Rattle.table_records.specs.Take.{place_of, capped_count}
use Rattle.table_records.proofs.Frames.{records_above, index_above}
use Rattle.table_records.proofs.Places.{place_has, place_absent}
use Rattle.table_records.proofs.Taken.{LeftBut}
use Rattle.pending_flows.specs.declared.header.HeaderFigures.{HeaderFigures}
use Rattle.pending_flows.specs.declared.header.Header.{Header}
use Rattle.pending_flows.specs.Header.{HoldsCache}
use Rattle.table_view.proofs.Removed.{label_counts_lem, none_set}
use Rattle.table_view.proofs.Summed.{len_most}
use Rattle.table_view.proofs.Tied.{entries_small, none_past}
use Rattle.pending_calls.specs.Removal.{everything, unexpired, counted, counted_but, Removes, RemovesFrom}
use Rattle.pending_calls.proofs.NoneRemoved.{entries_short}
use Rattle.pending_calls.proofs.Removals.{removal_done, closed_apart}
use Rattle.pending_calls.proofs.RemovedLemmas.{TiedRows, rows_tied, few_templates, entries_below_records, records_within}
use Rattle.table_promotion.specs.declared.taking.Taken.{Taken}
use Rattle.table_promotion.specs.Taking.{TakesLabel}
use Rattle.table_promotion.proofs.TakenLabels.{label_closes}

module _ (w : List ℕ) (n : ℕ) (ok : well_formed w n ≡ true) (ttl : Option ℕ) (now label : ℕ) where
  legal : LegalWords w n
  legal = words_say w n ok

  abbrev p : ℕ
  p = records_at (limits_of w)

  abbrev k : ℕ
  k = held_count w + chance_count w

  abbrev es : List Entry
  es = entries_from w entries_at (entry_count w)

  abbrev rs : List TemplateRecord
  rs = records_from w p k

  rows : TiedRows p k (entry_count w) w
  rows = rows_tied w n legal

  -- ---- the entries that stay

  abbrev q : StayTest
  q = unexpired ttl now label

  abbrev stay : List Entry
  stay = kept_by (stays q) es

  few : length es ≤ 262144
  few = omega (arith, length_entries w entries_at (entry_count w), legal.entries_fit, legal.limits_legal_lem.bodies_few)

  swept_is : swept q zeros es ≡ stay
  swept_is =
      swept_unskipped q zeros es
      (all_map (λ e. e.label < 1024) (λ e. get_or zeros e.label 0 ≡ 0)
      (λ e small. get_or-replicate {A = ℕ} 1024 e.label 0 0 small) es
      (entries_small rs es rows.labels_small rows.labels_known))

  others_pass : OthersPass (stays q) label es
  unfolding stays
  others_pass =
      all_map (λ e. e.len ≤ len_most) (λ e. ((label ≡ e.label → ⊥) → stays q e ≡ true))
      (λ e short d. rw (ne_eqb label e.label d, le-leb e.len len_most short)) es (entries_short w n ok)

  -- ---- how many of each label stay

  label_has : (j : ℕ) → j < 1024 → get_or (counted stay) j 0 ≡ tally j stay
  label_has =
      label_counts_lem stay (omega (arith, few, length_kept_by (stays q) es))
      (all_kept_by (stays q) (λ e. e.len ≤ len_most) es (entries_short w n ok))

  left_but : All (LeftBut (counted_but label stay) label) rs
  left_but =
      all_both (λ r. (r.label < 1024) × (0 < r.count)) (λ r. r.count ≡ tally r.label es)
      (LeftBut (counted_but label stay) label) each rs
      (all_both (λ r. r.label < 1024) (λ r. 0 < r.count) (λ r. (r.label < 1024) × (0 < r.count))
      (λ r a b. (a, b)) rs rows.labels_small rows.some_bodies)
      rows.counts_right
    where
      each : (r : TemplateRecord) → (r.label < 1024) × (0 < r.count) → r.count ≡ tally r.label es →
          LeftBut (counted_but label stay) label r
      each r small right = (by_label (eqb label r.label) refl, small.1)
        where
          by_label : (t : Bool) → eqb label r.label ≡ t →
              get_or (counted_but label stay) r.label 0 ≡ cond t 0 r.count
          by_label true e =
              ap (λ (j : ℕ). get_or (counted_but label stay) j 0) (sym (eqb-true label r.label e))
              ∙ none_set (counted stay) label
          by_label false e =
              let d = eqb-false label r.label e in
              get_or-set_other (counted stay) label r.label 0 0 (λ z. d (sym z))
              ∙ label_has r.label small.0
              ∙ kept_others (stays q) label r.label d es others_pass
              ∙ sym right

  -- ---- the steps

  module _ {w₁ w₂ : List ℕ} {left : Kept} {a : Taken} (s : KeepsOnly stay (entry_count w) w w₁ left)
      (t : TakesLabel label p k w₁ w₂ a) where
    same_records : records_from w₁ p k ≡ rs
    same_records =
        records_above w₁ w p k (entries_at + entry_words * entry_count w) (entries_below_records w n legal) s.tail

    same_index : index_from w₁ p k ≡ index_from w p k
    same_index =
        index_above w₁ w p k (entries_at + entry_words * entry_count w) (entries_below_records w n legal) s.tail

    closes : Closes p k (counted_but label stay) w₁ w₂ a.records
    closes =
        label_closes label p k w₁ (rw same_records rows.labels_differ) (rw same_records left_but)
        (few_templates w n legal) (rw (same_records, same_index) rows.index_right) t

    stay_long : left.entries ≡ length stay
    stay_long = sym (length_entries w₁ entries_at left.entries) ∙ ap length s.entries

    -- what the record counted: all of the label
    bodies_counted : a.bodies ≡ tally label es
    bodies_counted = by_place (ltb at k) refl
      where
        at : ℕ
        at = place_of label (records_from w₁ p k)

        r : TemplateRecord
        r = record_at w₁ (p + record_words * at)

        Counts : TemplateRecord → Type 0
        Counts u = u.count ≡ tally u.label es

        each : All Counts (records_from w₁ p k)
        each = rw same_records rows.counts_right

        by_place : (u : Bool) → ltb at k ≡ u → a.bodies ≡ tally label es
        by_place true e =
            let held = ltb-true at k e in
            let known : Counts r × (label ≡ r.label) = place_has Counts label w₁ p k each held in
            let here : a.bodies ≡ capped_count r.count = (t.one held).0.counted in
            let same : tally r.label es ≡ tally label es = ap (λ (j : ℕ). tally j es) (sym known.1) in
            omega (arith, known.0, tally_most label es, few)
        by_place false e =
            let past = ltb-false at k e in
            let absent = place_absent label (records_from w₁ p k) (omega (arith, length_records w₁ p k)) in
            (t.none past).2 ∙ sym (absent_tally label rs es (rw same_records at absent) rows.labels_known)

    went_counted : entry_count w - left.entries ≤ a.bodies
    went_counted =
        omega (
          arith,
          stay_long,
          bodies_counted,
          length_entries w entries_at (entry_count w),
          kept_fewer (stays q) label es others_pass,
          length_kept_by (stays q) es,
        )

    bodies_left : a.bodies - (entry_count w - left.entries) ≡ get_or (counted stay) label 0
    bodies_left = by_size (ltb label 1024) refl
      where
        rest : a.bodies - (entry_count w - left.entries) ≡ tally label stay
        rest =
            omega (
              arith,
              stay_long,
              bodies_counted,
              length_entries w entries_at (entry_count w),
              kept_fewer (stays q) label es others_pass,
              length_kept_by (stays q) es,
            )

        by_size : (u : Bool) → ltb label 1024 ≡ u → a.bodies - (entry_count w - left.entries)
            ≡ get_or (counted stay) label 0
        by_size true e = rest ∙ sym (label_has label (ltb-true label 1024 e))
        by_size false e =
            let past = ltb-false label 1024 e in
            let small = all_kept_by (stays q) (λ e. e.label < 1024) es
            (entries_small rs es rows.labels_small rows.labels_known) in
            let long : length (replicate {A = ℕ} 1024 0) ≡ 1024 = length-replicate {A = ℕ} 1024 0 in
            rest ∙ none_past label stay small past
            ∙ sym (get_or-eq_default (counted stay) 0 {n = label}
            (omega (arith, past, length_summed everything false zeros stay)))

    removed_by : length w₂ ≡ length w →
        Removes q p k (entry_count w) label zeros w w₂
        (record {
          entries = left.entries;
          bytes = left.bytes;
          records = a.records;
          apart = a.bodies - (entry_count w - left.entries);
        })
    removed_by long =
        removal_done q p k (entry_count w) label zeros w w₁ w₂ (counted stay) left
        (record {
          entries = left.entries;
          bytes = left.bytes;
          records = a.records;
          apart = a.bodies - (entry_count w - left.entries);
        })
        (entries_below_records w n legal, records_within w n legal) (rw swept_is s) (ap counted (sym swept_is))
        (closed_apart p k label left (counted stay) w₁ w₂ bodies_left refl closes) long

-- with the header that was read
module _ (w : List ℕ) (n : ℕ) {h : Header} (holds : HoldsCache h w n) (now label : ℕ) {p : ℕ}
    (from : p ≡ records_at h.limits) {w₁ : List ℕ} {left : Kept} {q : StayTest}
    (is : q ≡ unexpired h.limits.ttl now label)
    (s : KeepsOnly (kept_by (stays q) (entries_from w entries_at h.figures.entries)) h.figures.entries w w₁ left)
  where
    swept_read : KeepsOnly (stay w n holds.legal h.limits.ttl now label) (entry_count w) w w₁ left
    swept_read = rw (is, holds.figures) at s

    pub went_fits : h.figures.entries - left.entries < 2 ^ 32
    went_fits =
        omega (
          arith,
          few w n holds.legal h.limits.ttl now label,
          length_entries w entries_at (entry_count w),
          ap (λ (g : HeaderFigures). g.entries) holds.figures,
        )

    module _ {w₂ : List ℕ} {a : Taken} (t : TakesLabel label p (h.figures.templates + h.figures.chance) w₁ w₂ a) where
      taken_read : TakesLabel label (records_at (limits_of w)) (held_count w + chance_count w) w₁ w₂ a
      taken_read = rw (from, holds.limits, holds.figures) at t

      pub went_of_label : h.figures.entries - left.entries ≤ a.bodies
      went_of_label = rw holds.figures (went_counted w n holds.legal h.limits.ttl now label swept_read taken_read)

      pub expired_removed : length w₂ ≡ length w →
          RemovesFrom (unexpired h.limits.ttl now label) label (replicate 1024 0) w w₂
          (record {
            entries = left.entries;
            bytes = left.bytes;
            records = a.records;
            apart = a.bodies - (h.figures.entries - left.entries);
          })
      expired_removed long =
          rw holds.figures (removed_by w n holds.legal h.limits.ttl now label swept_read taken_read long)
