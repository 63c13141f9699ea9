-- The removal where every body stays, with the header that was read. Assumes nothing.
use mathlib.Core.Path.{◌≡◌, refl, sym, ap, ◌∙◌}
use mathlib.Core.Logic.{◌≢◌}
use mathlib.Core.Bool.{Bool, true, false, cond}
use mathlib.Core.List.{List}
use Prim.Native.Nat.{ℕ, ◌+◌, ◌*◌, ◌^◌, ◌≤◌, ◌<◌}
use native.Mathlib.Nat.{mod-eq_of_lt}
use native.Mathlib.Omega.{arith}
use lib.Dec.{eqb, ltb}
use lib.ListN.{length, get_or, replicate, length-replicate, get_or-eq_default}
use lib.Seq.{take_all, get_or-set_other}
use borrow.Author.Tests.{eqb-true, eqb-false, ltb-true, ltb-false}
use Rattle.config.specs.Limits.{record_words, entry_words}
use Rattle.config.proofs.Lists.{All, all_both}
use Rattle.table.specs.declared.Entry.{Entry}
use Rattle.table.specs.declared.TemplateRecord.{TemplateRecord}
use Rattle.table.specs.Layout.{limits_of, total_word, held_count, entry_count, chance_count, entries_at, records_at}
use Rattle.table.specs.Table.{table_of, record_at, entries_from, records_from, records, tally, has_label}
use Rattle.table.specs.WellFormed.{well_formed}
use Rattle.table.proofs.Words.{length_entries, length_records}
use Rattle.table.proofs.Facts.{LegalWords, words_say}
use Rattle.table.proofs.Labels.{tally_most, absent_tally}
use Rattle.table_entries.specs.declared.StayTest.{StayTest}
use Rattle.table_entries.specs.declared.sweeps.Kept.{Kept}
use Rattle.table_entries.specs.Sums.{lens_word}
use Rattle.table_entries.specs.Sweep.{swept}
use Rattle.table_entries.proofs.LabelSums.{length_summed, zeros}
use Rattle.table_entries.proofs.Lengths.{lens_within}
use Rattle.table_records.specs.Close.{Closes}
use Rattle.table_records.specs.Take.{place_of, capped_count}
use Rattle.table_records.proofs.Places.{place_has, place_absent}
use Rattle.table_records.proofs.Taken.{LeftBut}
use Rattle.table_promotion.specs.declared.taking.Taken.{Taken}
use Rattle.table_promotion.specs.Taking.{TakesLabel}
use Rattle.table_promotion.proofs.TakenLabels.{label_closes}
use Rattle.pending_flows.specs.declared.header.HeaderFigures.{HeaderFigures}
use Rattle.pending_flows.specs.declared.header.Header.{Header}
use Rattle.pending_flows.specs.Header.{HoldsCache}
use Rattle.table_view.proofs.Summed.{len_most}
use Rattle.table_view.proofs.Removed.{label_counts_lem, none_set, placed_short}
use Rattle.table_view.proofs.Totals.{lens_owned}
use Rattle.table_view.proofs.AllStay.{everything_swept}
use Rattle.pending_calls.specs.declared.removal.Removed.{Removed}
use Rattle.pending_calls.specs.Removal.{everything, counted, counted_but, Removes, RemovesFrom}
use Rattle.pending_calls.proofs.Removals.{removal_done, closed_apart}
use Rattle.pending_calls.proofs.RemovedLemmas.{TiedRows, rows_tied, rows_placed, few_templates, few_bodies}
use Rattle.pending_calls.proofs.RemovedLemmas.{total_short, entries_below_records, records_within}

-- two removals that keep the same entries
pub removes_alike : {q q' : StayTest} {p k m apart : ℕ} {skip skip' w w' : List ℕ} {r : Removed} →
    swept q skip (entries_from w entries_at m) ≡ swept q' skip' (entries_from w entries_at m) →
    Removes q p k m apart skip w w' r → Removes q' p k m apart skip' w w' r
removes_alike {apart = apart} same done = record {
  few_entries = done.few_entries;
  few_records = done.few_records;
  entries = done.entries ∙ same;
  bytes = done.bytes ∙ ap lens_word same;
  bodies_apart = done.bodies_apart ∙ ap (λ (es : List Entry). get_or (counted es) apart 0) same;
  records = done.records ∙ rw same;
  index = rw same at done.index;
  head = done.head;
  tail = done.tail;
  long = done.long;
}

-- all entries
abbrev es : List ℕ → List Entry
es w = entries_from w entries_at (entry_count w)

module _ (w : List ℕ) (n : ℕ) (ok : well_formed w n ≡ true) where
  legal : LegalWords w n
  legal = words_say w n ok

  pub entries_short : All (λ e. e.len ≤ len_most) (es w)
  entries_short =
      placed_short 0 (limits_of w).max_total_bytes len_most (es w) (total_short w n legal) (rows_placed w n legal)

  pub all_swept_stay : swept everything zeros (es w) ≡ es w
  all_swept_stay = everything_swept (rows_tied w n legal) entries_short

  -- where nothing is handed out, the total is of all entries
  total_all : chance_count w ≡ 0 → total_word w ≡ lens_word (es w)
  total_all none =
      let held = (table_of w).held in
      let most = (limits_of w).max_total_bytes in
      let all : held ≡ records w =
      take_all (held_count w) (records w)
      (omega (arith, length_records w (records_at (limits_of w)) (held_count w + chance_count w))) in
      let known : All (λ e. has_label e.label held ≡ true) (es w) = rw all (rows_tied w n legal).labels_known in
      let lens = lens_owned held (es w) known in
      let within = lens_within 0 most (es w) (omega arith) (rows_placed w n legal) in
      legal.table_legal_lem.total_right ∙ sym lens ∙ sym (mod-eq_of_lt (omega (arith, total_short w n legal)))

-- with the header that was read
module _ (w : List ℕ) (n : ℕ) {h : Header} (holds : HoldsCache h w n) where
  checked : LegalWords w n
  checked = words_say w n holds.legal

  abbrev k : ℕ
  k = h.figures.templates + h.figures.chance

  pub records_few : k ≤ 1024
  records_few = rw holds.figures (few_templates w n checked)

  pub records_fit : k < 2 ^ 64
  records_fit = omega (arith, records_few)

  module _ {p : ℕ} (from : p ≡ records_at h.limits) where
    pub entries_below : entries_at + entry_words * h.figures.entries ≤ p
    entries_below = rw (holds.figures, from, holds.limits) (entries_below_records w n checked)

    pub records_inside : p + record_words * (h.figures.templates + h.figures.chance) ≤ length w
    records_inside = rw (holds.figures, from, holds.limits) (records_within w n checked)

    abbrev rs : List TemplateRecord
    rs = records_from w p k

    start : p ≡ records_at (limits_of w)
    start = from ∙ ap records_at holds.limits

    rows : TiedRows p k (entry_count w) w
    rows = rw (start, holds.figures) (rows_tied w n checked)

    module _ (none : h.figures.chance ≡ 0) (apart : ℕ) where
      abbrev kept : List ℕ
      kept = counted_but apart (es w)

      label_has : (j : ℕ) → j < 1024 → get_or (counted (es w)) j 0 ≡ tally j (es w)
      label_has =
          label_counts_lem (es w) (omega (arith, length_entries w entries_at (entry_count w), few_bodies w n checked))
          (entries_short w n holds.legal)

      -- what each record counts is left, but of the label apart
      left_but : All (LeftBut kept apart) rs
      left_but =
          all_both (λ r. (r.label < 1024) × (0 < r.count)) (λ r. r.count ≡ tally r.label (es w))
          (LeftBut kept apart) each rs
          (all_both (λ r. r.label < 1024) (λ r. 0 < r.count) (λ r. (r.label < 1024) × (0 < r.count))
          (λ r a b. (a, b)) rs rows.labels_small rows.some_bodies)
          rows.counts_right
        where
          each : (r : TemplateRecord) → (r.label < 1024) × (0 < r.count) → r.count ≡ tally r.label (es w) →
              LeftBut kept apart r
          each r small right = (by_label (eqb apart r.label) refl, small.1)
            where
              by_label : (t : Bool) → eqb apart r.label ≡ t → get_or kept r.label 0 ≡ cond t 0 r.count
              by_label true e =
                  let same : r.label ≡ apart = sym (eqb-true apart r.label e) in
                  ap (λ (j : ℕ). get_or kept j 0) same ∙ none_set (counted (es w)) apart
              by_label false e =
                  let d : r.label ≡ apart → ⊥ = λ z. eqb-false apart r.label e (sym z) in
                  get_or-set_other (counted (es w)) apart r.label 0 0 d
                  ∙ label_has r.label small.0
                  ∙ sym right

      done_by : (w' : List ℕ) (remain bodies : ℕ) → Closes p k kept w w' remain → length w' ≡ length w →
          bodies ≡ get_or (counted (es w)) apart 0 →
          RemovesFrom everything apart zeros w w'
          (record { entries = h.figures.entries; bytes = h.figures.total; records = remain; apart = bodies })
      done_by w' remain bodies closes long counts =
          let many : h.figures.entries ≡ entry_count w = ap (λ (g : HeaderFigures). g.entries) holds.figures in
          let all : k ≡ held_count w + chance_count w = ap (λ (g : HeaderFigures). g.templates + g.chance) holds.figures in
          let total : h.figures.total ≡ lens_word (es w) =
          ap (λ (g : HeaderFigures). g.total) holds.figures
          ∙ total_all w n holds.legal (sym (ap (λ (g : HeaderFigures). g.chance) holds.figures) ∙ none) in
          rw many
          (removal_done everything (records_at (limits_of w)) (held_count w + chance_count w) (entry_count w) apart
          zeros w
          w w' (counted (es w)) left
          (record { entries = entry_count w; bytes = h.figures.total; records = remain; apart = bodies })
          (entries_below_records w n checked, records_within w n checked)
          (rw (all_swept_stay w n holds.legal)
          (record { few = omega arith; entries = refl; bytes = total; head = refl; tail = refl }))
          (rw (all_swept_stay w n holds.legal))
          (closed_apart (records_at (limits_of w)) (held_count w + chance_count w) apart left (counted (es w)) w w' counts
          refl (rw (start, all) at closes)) long)
        where
          left : Kept
          left = record { entries = entry_count w; bytes = h.figures.total }

      -- the record of the label tells how many bodies it has, where there is one
      abbrev at : ℕ
      at = place_of apart rs

      abbrev r : TemplateRecord
      r = record_at w (p + record_words * at)

      abbrev Counts : TemplateRecord → Type 0
      Counts u = (u.label < 1024) × (u.count ≡ tally u.label (es w))

      held_count_lem : {bodies : ℕ} → at < k → bodies ≡ capped_count r.count → bodies ≡ get_or (counted (es w)) apart 0
      held_count_lem held here =
          let known : Counts r × (apart ≡ r.label) =
          place_has Counts apart w p k
          (all_both (λ u. u.label < 1024) (λ u. u.count ≡ tally u.label (es w)) Counts (λ u a b. (a, b)) rs
          rows.labels_small rows.counts_right) held in
          let same : tally r.label (es w) ≡ tally apart (es w) = ap (λ (j : ℕ). tally j (es w)) (sym known.1) in
          omega (
            arith,
            known.0.1,
            known.0.0,
            known.1,
            tally_most apart (es w),
            length_entries w entries_at (entry_count w),
            few_bodies w n checked,
            label_has apart (omega (arith, known.0.0, known.1)),
          )

      none_count : k ≤ at → 0 ≡ get_or (counted (es w)) apart 0
      none_count past = by_size (ltb apart 1024) refl
        where
          absent : All (λ u. apart ≢ u.label) rs
          absent = place_absent apart rs (omega (arith, length_records w p k))

          by_size : (t : Bool) → ltb apart 1024 ≡ t → 0 ≡ get_or (counted (es w)) apart 0
          by_size true e =
              sym (label_has apart (ltb-true apart 1024 e) ∙ absent_tally apart rs (es w) absent rows.labels_known)
          by_size false e =
              let long : length (replicate {A = ℕ} 1024 0) ≡ 1024 = length-replicate {A = ℕ} 1024 0 in
              sym (get_or-eq_default (counted (es w)) 0 {n = apart}
              (omega (arith, ltb-false apart 1024 e, length_summed everything false zeros (es w))))

      module _ {w' : List ℕ} {a : Taken} (taken : TakesLabel apart p k w w' a) where
        count : a.bodies ≡ get_or (counted (es w)) apart 0
        count = by_place (ltb at k) refl
          where
            by_place : (t : Bool) → ltb at k ≡ t → a.bodies ≡ get_or (counted (es w)) apart 0
            by_place true e = let held = ltb-true at k e in held_count_lem held (taken.one held).0.counted
            by_place false e = let past = ltb-false at k e in (taken.none past).2 ∙ none_count past

        pub none_removed : length w' ≡ length w →
            RemovesFrom everything apart zeros w w'
            (record { entries = h.figures.entries; bytes = h.figures.total; records = a.records; apart = a.bodies })
        none_removed long =
            done_by w' a.records a.bodies
            (label_closes apart p k w rows.labels_differ left_but (omega (arith, records_few)) rows.index_right
            taken) long count
