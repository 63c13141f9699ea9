-- The removal of one template, from the steps of the code: the entries of its label are swept, its record is taken off,
-- and then that of the label apart, where there is one. Assumes nothing.
use Rattle.std.proofs.Common.{Some}
use mathlib.Core.Path.{◌≡◌, refl, sym, ap, ◌∙◌}
use mathlib.Core.Bool.{Bool, true, false, cond, ◌&&◌, and-false, false≢true}
use mathlib.Core.List.{List}
use Prim.Native.Nat.{ℕ, ◌+◌, ◌*◌, ◌≤◌, ◌<◌}
use native.Mathlib.Omega.{arith}
use native.Mathlib.Decide.{ℕ_discrete}
use lib.Dec.{eqb, ltb}
use lib.ListN.{length, get_or, set, replicate, length-replicate, get_or-eq_default}
use lib.Seq.{get_or-set_other}
use borrow.Author.Tests.{eqb-true, eqb-false, ltb-true, ltb-false}
use Rattle.config.specs.Limits.{record_words, entry_words}
use Rattle.config.specs.Age.{expired_at}
use Rattle.config.proofs.Lists.{All, all_of, all_both}
use Rattle.table.specs.declared.Entry.{Entry}
use Rattle.table.specs.declared.TemplateRecord.{TemplateRecord}
use Rattle.table.specs.Layout.{limits_of, held_count, entry_count, chance_count, entries_at, records_at}
use Rattle.table.specs.Table.{record_at, entries_from, records_from, index_from, tally, has_label}
use Rattle.table.specs.WellFormed.{well_formed, index_rises}
use Rattle.table.proofs.Words.{length_entries, length_records}
use Rattle.table.proofs.Facts.{LegalWords, words_say}
use Rattle.table.proofs.Labels.{tally_most, absent_says, absent_holds, absent_tally}
use Rattle.table_entries.specs.declared.StayTest.{StayTest}
use Rattle.table_entries.specs.declared.sweeps.Kept.{Kept}
use Rattle.table_entries.specs.Stays.{stays}
use Rattle.table_entries.specs.Sums.{lens_sum}
use Rattle.table_entries.specs.Sweep.{swept, KeepsOnly}
use Rattle.entry_sweeps.specs.KeptBy.{kept_by}
use Rattle.entry_sweeps.proofs.KeptBy.{other_than, zero_kept}
use Rattle.table_entries.proofs.LabelSums.{length_summed, zeros}
use Rattle.table_entries.proofs.Swept.{length_swept, all_swept}
use Rattle.table_records.specs.Choose.{skip_all}
use Rattle.table_records.specs.Close.{closed, nowhere, positions, remapped, Closes}
use Rattle.table_records.specs.Take.{place_of, capped_count}
use Rattle.table_records.proofs.Closed.{closed_all, closed_differ, has_closed}
use Rattle.table_records.proofs.ClosedIndex.{closed_rises}
use Rattle.table_records.proofs.Frames.{records_above, index_above}
use Rattle.table_records.proofs.Places.{place_has, place_absent}
use Rattle.table_records.proofs.Taken.{LeftBut}
use Rattle.pending_flows.specs.declared.header.Header.{Header}
use Rattle.pending_flows.specs.Header.{HoldsCache}
use Rattle.table_view.proofs.AllStay.{all_stay}
use Rattle.table_view.proofs.Removed.{label_counts_lem, none_set}
use Rattle.table_view.proofs.Summed.{len_most}
use Rattle.table_view.proofs.Tied.{entries_small}
use Rattle.pending_calls.specs.declared.removal.Removed.{Removed}
use Rattle.pending_calls.specs.Removal.{everything, unexpired, counted, counted_but, RemovesTo, RemovesFrom}
use Rattle.pending_calls.proofs.NoneRemoved.{entries_short}
use Rattle.pending_calls.proofs.Removals.{removal_to, closed_apart}
use Rattle.pending_calls.proofs.RemovedLemmas.{TiedRows, rows_tied, few_templates, entries_below_records, records_within}
use Rattle.table_promotion.specs.declared.taking.Taken.{Taken}
use Rattle.table_promotion.specs.Taking.{TakesLabel}
use Rattle.template_removal.specs.Taking.{TakesBoth}
use Rattle.template_removal.proofs.ClosesTwice.{Emptied, index_between, closes_twice}
use Rattle.template_removal.proofs.OthersStay.{none_of_own, all_of_others, label_swept}
use Rattle.table_promotion.proofs.TakenLabels.{label_closes}

module _ (w : List ℕ) (n : ℕ) (ok : well_formed w n ≡ true) (label apart : ℕ) where
  legal : LegalWords w n
  legal = words_say w n ok

  abbrev p : ℕ
  p = records_at (limits_of w)

  abbrev k : ℕ
  k = held_count w + chance_count w

  abbrev es : List Entry
  es = entries_from w entries_at (entry_count w)

  abbrev rs : List TemplateRecord
  rs = records_from w p k

  abbrev is : List ℕ
  is = index_from w p k

  rows : TiedRows p k (entry_count w) w
  rows = rows_tied w n legal

  -- ---- the entries that stay

  abbrev stay : List Entry
  stay = kept_by (other_than label) es

  abbrev skip : List ℕ
  skip = set zeros label skip_all

  few : length es ≤ skip_all
  few = omega (arith, length_entries w entries_at (entry_count w), legal.entries_fit, legal.limits_legal_lem.bodies_few)

  pub swept_is : swept everything skip es ≡ stay
  swept_is =
      label_swept label everything skip_all es
      (all_stay everything es
      (all_of (λ e. eqb 1024 e.label && expired_at everything.ttl 0 e.clock ≡ false) es
      (λ e. and-false (eqb 1024 e.label)))
      (entries_short w n ok))
      (entries_small rs es rows.labels_small rows.labels_known) (omega (arith, few, tally_most label es))

  stay_few : length stay ≤ skip_all
  stay_few =
      let most : length stay ≤ length es = rw swept_is at (length_swept everything skip es) in
      omega (arith, few)

  stay_known : All (λ e. has_label e.label rs ≡ true) stay
  stay_known =
      rw swept_is at (all_swept (λ e. has_label e.label rs ≡ true) everything skip es rows.labels_known)

  -- ---- how many of each label stay

  abbrev kept : List ℕ
  kept = counted stay

  abbrev but : List ℕ
  but = counted_but apart stay

  label_has : (j : ℕ) → j < 1024 → get_or kept j 0 ≡ tally j stay
  label_has =
      label_counts_lem stay (omega (arith, stay_few))
      (rw swept_is at (all_swept (λ e. e.len ≤ len_most) everything skip es (entries_short w n ok)))

  -- what each record counts, but of the template that goes
  left_but : All (LeftBut kept label) rs
  left_but =
      all_both (λ r. (r.label < 1024) × (0 < r.count)) (λ r. r.count ≡ tally r.label es)
      (LeftBut kept label) each rs
      (all_both (λ r. r.label < 1024) (λ r. 0 < r.count) (λ r. (r.label < 1024) × (0 < r.count))
      (λ r a b. (a, b)) rs rows.labels_small rows.some_bodies)
      rows.counts_right
    where
      each : (r : TemplateRecord) → (r.label < 1024) × (0 < r.count) → r.count ≡ tally r.label es →
          LeftBut kept label r
      each r small right = (by_label (eqb label r.label) refl, small.1)
        where
          by_label : (t : Bool) → eqb label r.label ≡ t → get_or kept r.label 0 ≡ cond t 0 r.count
          by_label true e =
              label_has r.label small.0
              ∙ ap (λ (j : ℕ). tally j stay) (sym (eqb-true label r.label e))
              ∙ none_of_own label es
          by_label false e =
              label_has r.label small.0
              ∙ all_of_others label r.label (eqb-false label r.label e) es
              ∙ sym right

  emptied : All (Emptied kept but) rs
  emptied = all_of (Emptied kept but) rs (λ r z. by_label r z (ℕ_discrete r.label apart))
    where
      by_label : (r : TemplateRecord) → get_or kept r.label 0 ≡ 0 → Dec (r.label ≡ apart) →
          get_or but r.label 0 ≡ 0
      by_label r z (yes d) = ap (λ (j : ℕ). get_or but j 0) d ∙ none_set kept apart
      by_label r z (no d) = get_or-set_other kept apart r.label 0 0 d ∙ z

  -- what the records left count, but of the label apart
  left_apart : All (LeftBut but apart) (closed kept rs)
  left_apart =
      closed_all kept (λ r. r.label < 1024) (LeftBut but apart)
      (λ r _ some. (by_label r (eqb apart r.label) refl, some)) rs rows.labels_small
    where
      by_label : (r : TemplateRecord) (t : Bool) → eqb apart r.label ≡ t →
          get_or but r.label 0 ≡ cond t 0 (get_or kept r.label 0)
      by_label r true e =
          ap (λ (j : ℕ). get_or but j 0) (sym (eqb-true apart r.label e)) ∙ none_set kept apart
      by_label r false e =
          get_or-set_other kept apart r.label 0 0 (λ z. eqb-false apart r.label e (sym z))

  -- a label that no record left has, has no bodies
  none_left : All (λ u. apart ≡ u.label → ⊥) (closed kept rs) → 0 ≡ get_or kept apart 0
  none_left absent = by_count (ltb 0 (get_or kept apart 0)) refl (ltb apart 1024) refl
    where
      no_record_left : has_label apart rs && ltb 0 (get_or kept apart 0) ≡ false
      no_record_left = sym (has_closed kept apart rs) ∙ absent_holds apart (closed kept rs) absent

      unknown : (t : Bool) → has_label apart rs ≡ t → t && true ≡ false → tally apart stay ≡ 0
      unknown true e h = absurd (false≢true (sym h))
      unknown false e h = absent_tally apart rs stay (absent_says apart rs e) stay_known

      by_count : (s : Bool) → ltb 0 (get_or kept apart 0) ≡ s → (t : Bool) → ltb apart 1024 ≡ t → 0 ≡ get_or kept
          apart 0
      by_count false e t f = omega (arith, ltb-false 0 (get_or kept apart 0) e)
      by_count true e true f =
          sym (label_has apart (ltb-true apart 1024 f) ∙ unknown (has_label apart rs) refl (rw e at no_record_left))
      by_count true e false f =
          let long : length (replicate {A = ℕ} 1024 0) ≡ 1024 = length-replicate {A = ℕ} 1024 0 in
          sym (get_or-eq_default kept 0 {n = apart}
          (omega (arith, ltb-false apart 1024 f, length_summed everything false zeros stay)))

  -- ---- the steps

  -- the entries that are left may be any list whose lengths add up to the same
  module _ (after : List Entry) (lens : lens_sum after ≡ lens_sum stay) {w₁ w₂ w₃ : List ℕ} {left : Kept} {a b : Taken}
      (s : KeepsOnly after (entry_count w) w w₁ left) (t : TakesLabel label p k w₁ w₂ a)
      (u : TakesLabel apart p a.records w₂ w₃ b) where
    same_records : records_from w₁ p k ≡ rs
    same_records =
        records_above w₁ w p k (entries_at + entry_words * entry_count w) (entries_below_records w n legal) s.tail

    same_index : index_from w₁ p k ≡ is
    same_index =
        index_above w₁ w p k (entries_at + entry_words * entry_count w) (entries_below_records w n legal) s.tail

    few_records : k ≤ nowhere
    few_records = few_templates w n legal

    emptied_swept : All (Emptied kept but) (records_from w₁ p k)
    emptied_swept = rw same_records emptied

    rises_swept : index_rises (records_from w₁ p k) 0 (index_from w₁ p k) ≡ true
    rises_swept = rw (same_records, same_index) rows.index_right

    own_closed : Closes p k kept w₁ w₂ a.records
    own_closed =
        label_closes label p k w₁ (rw same_records rows.labels_differ) (rw same_records left_but) few_records
        rises_swept t

    records_left : records_from w₂ p a.records ≡ closed kept rs
    records_left = own_closed.records ∙ ap (closed kept) same_records

    index_left : index_from w₂ p a.records ≡ remapped (positions kept 0 rs) is
    index_left =
        rw (same_records, same_index) at (index_between kept but emptied_swept few_records rises_swept own_closed)

    apart_closed : Closes p a.records but w₂ w₃ b.records
    apart_closed =
        label_closes apart p a.records w₂
        (rw records_left (closed_differ kept (λ r. r.label) (λ r. refl) rs rows.labels_differ))
        (rw records_left left_apart) (omega (arith, own_closed.few, few_records))
        (rw (records_left, index_left) (closed_rises kept rs is rows.index_right)) u

    bodies_told : b.bodies ≡ get_or kept apart 0
    bodies_told = by_place (ltb at a.records) refl
      where
        at : ℕ
        at = place_of apart (records_from w₂ p a.records)

        r : TemplateRecord
        r = record_at w₂ (p + record_words * at)

        Counts : TemplateRecord → Type 0
        Counts v = (v.label < 1024) × (v.count ≡ get_or kept v.label 0)

        each : All Counts (records_from w₂ p a.records)
        each =
            rw records_left
            (closed_all kept (λ v. v.label < 1024) Counts (λ v x _. (x, refl)) rs rows.labels_small)

        by_place : (q : Bool) → ltb at a.records ≡ q → b.bodies ≡ get_or kept apart 0
        by_place true e =
            let held = ltb-true at a.records e in
            let known : Counts r × (apart ≡ r.label) = place_has Counts apart w₂ p a.records each held in
            let here : b.bodies ≡ capped_count r.count = (u.one held).0.counted in
            let same : get_or kept r.label 0 ≡ get_or kept apart 0 =
            ap (λ (j : ℕ). get_or kept j 0) (sym known.1) in
            omega (
              arith,
              known.0.1,
              label_has apart (omega (arith, known.0.0, known.1)),
              tally_most apart stay,
              stay_few,
            )
        by_place false e =
            let past = ltb-false at a.records e in
            let absent = place_absent apart (records_from w₂ p a.records)
            (omega (arith, length_records w₂ p a.records)) in
            (u.none past).2 ∙ none_left (rw records_left at absent)

    removed_to : length w₃ ≡ length w →
        RemovesTo after everything p k (entry_count w) apart skip w w₃
        (record { entries = left.entries; bytes = left.bytes; records = b.records; apart = b.bodies })
    removed_to long =
        removal_to everything p k (entry_count w) apart skip w w₁ w₃ kept left
        (record { entries = left.entries; bytes = left.bytes; records = b.records; apart = b.bodies }) after
        (entries_below_records w n legal, records_within w n legal) s (lens ∙ ap lens_sum (sym swept_is))
        (ap counted (sym swept_is))
        (closed_apart p k apart left kept w₁ w₃ bodies_told refl
        (closes_twice kept but emptied_swept few_records rises_swept own_closed apart_closed)) long

-- with the header that was read
module _ (w : List ℕ) (n : ℕ) {h : Header} (holds : HoldsCache h w n) (label apart : ℕ) {q : StayTest}
    (test : q ≡ unexpired (Some 0) 0 label) where
  -- the entries of the other labels
  abbrev others : List Entry
  others = kept_by (stays q) (entries_from w entries_at h.figures.entries)

  others_stay : others ≡ stay w n holds.legal label apart
  others_stay =
      rw (test, holds.figures)
      (zero_kept 0 label len_most (es w n holds.legal label apart) (entries_short w n holds.legal))

  pub others_swept :
      others ≡ swept everything (set (replicate 1024 0) label skip_all) (entries_from w entries_at (entry_count w))
  others_swept = others_stay ∙ sym (swept_is w n holds.legal label apart)

  module _ {p : ℕ} (from : p ≡ records_at h.limits) {w₁ w₃ : List ℕ} {left : Kept} {r : Removed}
      (t : TakesBoth label apart p (h.figures.templates + h.figures.chance) left w₁ w₃ r)
      (long : length w₃ ≡ length w) where
    pub others_removed : (after : List Entry) → lens_sum after ≡ lens_sum others →
        KeepsOnly after h.figures.entries w w₁ left →
        RemovesTo after everything (records_at (limits_of w)) (held_count w + chance_count w) (entry_count w) apart
        (set (replicate 1024 0) label skip_all) w w₃ r
    others_removed after lens s =
        rw t.told
        (removed_to w n holds.legal label apart after (lens ∙ ap lens_sum others_stay) (rw holds.figures at s)
        (rw (from, holds.limits, holds.figures) at t.takes_first) (rw (from, holds.limits) at t.takes_second) long)

    pub template_removed :
        KeepsOnly (kept_by (stays q) (entries_from w entries_at h.figures.entries)) h.figures.entries w w₁ left →
        RemovesFrom everything apart (set (replicate 1024 0) label skip_all) w w₃ r
    template_removed s = rw (← others_swept) (others_removed others refl s)
