-- What a drain takes out of records and entries that belong together: the templates of the other ids are left, and of
-- the id the bodies that are not expired. Assumes nothing.
use Rattle.std.proofs.Common.{Option}
use mathlib.Core.Path.{◌≡◌, refl, sym, ap, ◌∙◌}
use mathlib.Core.Logic.{◌≢◌}
use mathlib.Core.Bool.{Bool, true, false, not, cond}
use mathlib.Core.List.{List, [], ◌++◌, append-nil}
use Prim.Native.Nat.{ℕ, suc, ◌≤◌, ◌<◌}
use native.Mathlib.Omega.{arith}
use native.Mathlib.Decide.{ℕ_discrete}
use lib.Dec.{eqb}
use lib.ListN.{length, get_or, drop, length-drop, get_or-replicate}
use lib.Seq.{get_or-set_other}
use borrow.Author.Tests.{eqb-true, eqb-false, eq-eqb}
use Rattle.config.proofs.Lists.{All, all_map, all_both, all_front, all_back}
use Rattle.table.specs.declared.Entry.{Entry}
use Rattle.table.specs.declared.TemplateRecord.{TemplateRecord}
use Rattle.table.specs.Table.{has_label, tally}
use Rattle.table.specs.Reads.{live_count, live_lens}
use Rattle.table.proofs.Labels.{own_labels, labels_apart, tally_most}
use Rattle.table.proofs.FoundLabels.{label_for, found_has}
use Rattle.table_entries.specs.declared.StayTest.{StayTest}
use Rattle.table_entries.specs.Sweep.{swept}
use Rattle.table_entries.proofs.Swept.{length_swept, all_swept}
use Rattle.table_records.specs.Close.{closed}
use Rattle.table_records.specs.Choose.{skip_all, skipping}
use Rattle.table_records.proofs.Skips.{length_skipping, skipping_at}
use Rattle.table_records.proofs.Closed.{closed_all}
use Rattle.cache_model.specs.Bodies.{Body, Template, size, expired, keep, bodies_of, sum_bodies, without}
use Rattle.cache_model.proofs.Parts as Parts
use Rattle.cache_model.proofs.Parts.{length_without}
use Rattle.cache_model.proofs.Lists.{length_part}
use Rattle.cache_model.proofs.Thinning.{without_thinned}
use Rattle.pending_flows.specs.View.{bodies_at, templates_at}
use Rattle.pending_flows.proofs.Templates.{length_bodies, live_bodies_lem, length_templates, no_bodies}
use Rattle.pending_flows.proofs.Templates.{found_bodies}
use Rattle.table_view.proofs.Tied.{Tied, front_alone, entries_small, none_above}
use Rattle.table_view.proofs.Swept.{body_stays, Within, swept_bodies}
use Rattle.table_view.proofs.Removed.{label_counts, label_counts_but, label_counts_lem, none_set}
use Rattle.table_view.proofs.Totals.{live_lens_lem}
use Rattle.table_view.proofs.Closed.{Left, closed_templates, closed_append, closed_none}
use Rattle.table_view.proofs.Summed.{len_most}
use Rattle.pending_calls.specs.Removal.{unexpired, SkipsWhole}
use Rattle.pending_calls.proofs.WholeRemoved.{others_stay}
use Rattle.pending_drain.specs.Handing.{zeros}
use Rattle.pending_drain.proofs.Handing.{length_zeros}
use Rattle.pending_drain.proofs.Staying.{live_stay, kept_few}

module _ (b : List ℕ) (ttl : Option ℕ) (i now : ℕ) (held handed : List TemplateRecord) (es : List Entry) where
  -- the label of the id, which bodies stay, the entries that are left, and how many each other label has left
  abbrev pub label : ℕ
  label = label_for i held

  abbrev test : StayTest
  test = unexpired ttl now label

  abbrev skip : List ℕ
  skip = skipping zeros handed

  abbrev pub left : List Entry
  left = swept test skip es

  abbrev pub kept : List ℕ
  kept = label_counts_but label left

  -- the templates that are held, and the bodies that are handed out
  abbrev pub templates : List Template
  templates = templates_at b es held

  abbrev pub live : List Body
  live = keep (λ x. not (expired ttl now x)) (bodies_of i templates)

  module _ {is : List ℕ} (tied : Tied (held ++ handed) es is) (within : Within (length b) es)
      (short : All (λ e. e.len ≤ len_most) es) (few : length es ≤ skip_all) (single : length handed ≤ 1) where
    skip_at : (k : ℕ) → k < 1024 → get_or skip k 0 ≡ cond (has_label k handed) skip_all 0
    skip_at k small =
        skipping_at k zeros handed (omega (arith, length_zeros))
        ∙ ap (cond (has_label k handed) skip_all) (get_or-replicate {A = ℕ} 1024 k 0 0 small)

    -- of each record all bodies are skipped, or none
    pub drained_whole : SkipsWhole skip (held ++ handed)
    drained_whole = record {
      long = length_skipping zeros handed ∙ length_zeros;
      whole = all_both (λ r. r.label < 1024) (λ r. r.count ≡ tally r.label es)
          (λ r. (0 < get_or skip r.label 0 → r.count ≤ get_or skip r.label 0))
          (λ r small right. by_label r right (has_label r.label handed) (skip_at r.label small)) (held ++ handed)
          tied.labels_small tied.counts_right;
    }
      where
        by_label : (r : TemplateRecord) → r.count ≡ tally r.label es → (x : Bool) →
            get_or skip r.label 0 ≡ cond x skip_all 0 → (0 < get_or skip r.label 0 → r.count
            ≤ get_or skip r.label 0)
        by_label r right true e some = omega (arith, tally_most r.label es)
        by_label r right false e some = absurd (omega arith)

    bodies_left : (k : ℕ) → k < 1024 → (n : ℕ) → cond (has_label k handed) skip_all 0 ≡ n →
        bodies_at b k left ≡ drop n (keep (body_stays test k) (bodies_at b k es))
    bodies_left k small n e =
        swept_bodies b test k skip es
        (omega (arith, length_zeros, length_skipping zeros handed)) within
        ∙ ap (λ (m : ℕ). drop m (keep (body_stays test k) (bodies_at b k es))) (skip_at k small ∙ e)

    count_left : (k : ℕ) → k < 1024 → (k ≡ label → ⊥) → get_or kept k 0 ≡ length (bodies_at b k left)
    count_left k small d =
        get_or-set_other (label_counts left) label k 0 0 d
        ∙ label_counts_lem left (omega (arith, length_swept test skip es))
        (all_swept (λ e. e.len ≤ len_most) test skip es short) k small
        ∙ sym (length_bodies b k left)

    -- ---- what was handed out before goes

    handed_leaving : closed kept handed ≡ []
    handed_leaving =
        closed_none kept handed
        (all_both (λ r. has_label r.label handed ≡ true) (λ r. r.label < 1024)
        (λ r. get_or kept r.label 0 ≡ 0) empty
        handed (own_labels handed) (all_back (λ r. r.label < 1024) held handed tied.labels_small))
      where
        empty : (r : TemplateRecord) → has_label r.label handed ≡ true → r.label < 1024 → get_or kept r.label 0 ≡ 0
        empty r has small = by_label (ℕ_discrete r.label label)
          where
            stay : List Body
            stay = keep (body_stays test r.label) (bodies_at b r.label es)

            by_label : Dec (r.label ≡ label) → get_or kept r.label 0 ≡ 0
            by_label (yes d) = rw d (none_set (label_counts left) label)
            by_label (no d) =
                omega (
                  arith,
                  count_left r.label small d,
                  ap length (bodies_left r.label small skip_all (rw has)),
                  length-drop skip_all stay,
                  kept_few b (body_stays test r.label) r.label es,
                )

    -- ---- the other templates stay whole

    not_handed : All (λ r. has_label r.label handed ≡ false) held
    not_handed = labels_apart held handed tied.labels_differ

    held_small : All (λ r. r.label < 1024) held
    held_small = all_front (λ r. r.label < 1024) held handed tied.labels_small

    alone : All (λ r. eqb label r.label ≡ eqb i r.key) held
    alone = front_alone i held handed tied

    abbrev other : ℕ → List Body → List Body
    other j bs = cond (eqb i j) [] bs

    others_left : All (λ r. Left b other kept es left r) held
    others_left =
        all_both (λ r. (has_label r.label handed ≡ false) × (r.label < 1024))
        (λ r. eqb label r.label ≡ eqb i r.key) (λ r. Left b other kept es left r) each held
        (all_both _ _ (λ r. (has_label r.label handed ≡ false) × (r.label < 1024)) (λ r x y. (x, y)) held not_handed
        held_small) alone
      where
        each : (r : TemplateRecord) → (has_label r.label handed ≡ false) × (r.label < 1024) →
            eqb label r.label ≡ eqb i r.key → Left b other kept es left r
        each r h same = by_key (eqb label r.label) refl
          where
            by_key : (x : Bool) → eqb label r.label ≡ x → Left b other kept es left r
            by_key true e =
                let l : label ≡ r.label = eqb-true label r.label e in
                rw (sym same ∙ e) (rw (← l) (none_set (label_counts left) label), λ p. absurd (omega arith))
            by_key false e =
                let l : (label ≡ r.label → ⊥) = eqb-false label r.label e in
                let whole : bodies_at b r.label left ≡ bodies_at b r.label es =
                bodies_left r.label h.1 0 (rw h.0)
                ∙ others_stay b ttl now label es within short r.label l in
                rw (sym same ∙ e)
                (count_left r.label h.1 (λ d. l (sym d)) ∙ ap length whole, λ p. whole)

    pub drained_records : closed kept (held ++ handed) ≡ closed kept held
    drained_records =
        closed_append kept held handed ∙ ap (λ (rs : List TemplateRecord). closed kept held ++ rs) handed_leaving
        ∙ append-nil (closed kept held)

    -- no record that is left has the id
    pub drained_fresh : All (λ r. r.key ≢ i) (closed kept (held ++ handed))
    drained_fresh =
        rw drained_records
        (closed_all kept (λ r. eqb label r.label ≡ eqb i r.key) (λ r. r.key ≢ i) fresh held alone)
      where
        fresh : (r : TemplateRecord) → eqb label r.label ≡ eqb i r.key → 0 < get_or kept r.label 0 →
            r.key ≡ i → ⊥
        fresh r same some e =
            let l : label ≡ r.label = eqb-true label r.label (same ∙ eq-eqb i r.key (sym e)) in
            let none : get_or kept r.label 0 ≡ 0 = rw (← l) (none_set (label_counts left) label) in
            omega arith

    -- ---- of the id the live bodies are left

    all_small : All (λ e. e.label < 1024) es
    all_small = entries_small (held ++ handed) es tied.labels_small tied.labels_known

    left_small : All (λ e. e.label < 1024) left
    left_small = all_swept (λ e. e.label < 1024) test skip es all_small

    no_label_none : (k : ℕ) → k ≡ 1024 → (xs : List Entry) → All (λ e. e.label < 1024) xs → bodies_at b k xs ≡ []
    no_label_none k d xs small = no_bodies b k xs (rw d (none_above xs small))

    bodies_of_lem : bodies_of i templates ≡ bodies_at b label es
    bodies_of_lem = found_bodies b i es held (none_above es all_small)

    pub drained_most : label ≤ 1024
    drained_most =
        found_has i (λ j k. k ≤ 1024) held
        (all_map (λ r. r.label < 1024) (λ r. r.label ≤ 1024) (λ r h. omega arith) held held_small) (omega arith)

    pub drained_live : bodies_at b label left ≡ live
    drained_live = by_label (ℕ_discrete label 1024) ∙ ap (keep (λ x. not (expired ttl now x))) (sym bodies_of_lem)
      where
        unhanded : label < 1024 → has_label label handed ≡ false
        unhanded =
            found_has i (λ j k. k < 1024 → has_label k handed ≡ false) held
            (all_map _ (λ r. r.label < 1024 → has_label r.label handed ≡ false) (λ r x y. x) held not_handed)
            (λ h. absurd (omega arith))

        by_label : Dec (label ≡ 1024) →
            bodies_at b label left ≡ keep (λ x. not (expired ttl now x)) (bodies_at b label es)
        by_label (yes d) =
            no_label_none label d left left_small
            ∙ ap (keep (λ x. not (expired ttl now x))) (sym (no_label_none label d es all_small))
        by_label (no d) =
            let small : label < 1024 = omega (arith, drained_most) in
            bodies_left label small 0 (rw (unhanded small)) ∙ live_stay b ttl now label es within short

    -- as many as are counted
    pub drained_count : tally label left ≡ length live
    drained_count = sym (length_bodies b label left) ∙ ap length drained_live

    pub drained_live_count : live_count ttl now label es ≡ tally label left
    drained_live_count =
        live_bodies_lem b ttl now label es
        ∙ ap (λ (bs : List Body). length (keep (λ x. not (expired ttl now x)) bs)) (sym bodies_of_lem)
        ∙ sym drained_count

    -- and as long
    pub drained_lens : sum_bodies size (bodies_at b label left) ≡ live_lens ttl now label es
    drained_lens =
        ap (sum_bodies size) (drained_live ∙ ap (keep (λ x. not (expired ttl now x))) bodies_of_lem)
        ∙ sym (live_lens_lem b ttl now label es within)

    -- a body that is left has a label
    pub drained_small : 0 < tally label left → label < 1024
    drained_small =
        found_has i (λ j k. 0 < tally k left → k < 1024) held
        (all_map (λ r. r.label < 1024) (λ r. 0 < tally r.label left → r.label < 1024) (λ r x y. x) held held_small)
        (λ h. absurd (omega (arith, none_above left left_small)))

    module _ (differ : Parts.Differ templates) (filled : Parts.Filled templates) where
      pub drained_templates : templates_at b left (closed kept (held ++ handed)) ≡ without i templates
      drained_templates =
          ap (templates_at b left) drained_records
          ∙ closed_templates b kept es left held other others_left
          ∙ sym (without_thinned i templates differ filled)

      -- where bodies are handed out, a record less is held
      pub drained_fewer : 0 < tally label left → suc (length (closed kept (held ++ handed))) ≡ length held
      drained_fewer some =
          let now-held = closed kept (held ++ handed) in
          let bs = bodies_of i templates in
          omega (
            arith,
            ap length drained_templates,
            length_templates b left now-held,
            length_templates b es held,
            length_without i templates (omega (
              arith,
              drained_count,
              length_part (Parts.sub_keep (λ x. not (expired ttl now x)) bs),
            )),
          )
