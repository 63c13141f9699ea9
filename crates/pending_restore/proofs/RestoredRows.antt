-- What a put-back leaves of records and entries that belong together: the held templates whole, and behind them the
-- handed-out one with its last n bodies. Assumes nothing.
use mathlib.Core.Path.{◌≡◌, refl, sym, ap, ◌∙◌}
use mathlib.Core.Logic.{◌≢◌}
use mathlib.Core.List.{List, [], ◌∷◌, ◌++◌}
use Prim.Native.Nat.{ℕ, ◌-◌, ◌≤◌, ◌<◌}
use native.Mathlib.Omega.{arith}
use lib.ListN.{length, get_or, set, drop, length-drop, length-set, get_or-replicate}
use lib.Seq.{get_or-set_same, get_or-set_other}
use borrow.Author.Tests.{lt-ltb}
use Rattle.config.proofs.Lists.{All, all_of, all_both, all_front, all_back}
use Rattle.table.specs.declared.Entry.{Entry}
use Rattle.table.specs.declared.TemplateRecord.{TemplateRecord}
use Rattle.table.specs.Table.{tally}
use Rattle.table.proofs.Facts.{differ_across}
use Rattle.table_entries.specs.Sums.{sum_most}
use Rattle.table_entries.specs.Sweep.{swept}
use Rattle.table_entries.proofs.Swept.{length_swept, all_swept}
use Rattle.table_records.specs.Close.{recounted, closed}
use Rattle.cache_model.specs.Bodies.{Body}
use Rattle.cache_model.proofs.Parts as Parts
use Rattle.cache_model.proofs.Thinning.{thinned_all}
use Rattle.pending_flows.specs.View.{bodies_at, templates_at}
use Rattle.pending_flows.proofs.Templates.{length_bodies}
use Rattle.table_view.proofs.Tied.{Tied}
use Rattle.table_view.proofs.Swept.{Within, swept_bodies}
use Rattle.table_view.proofs.Summed.{everything_stays, everything, len_most}
use Rattle.table_view.proofs.Removed.{label_counts, label_counts_but, label_counts_lem}
use Rattle.table_view.proofs.Closed.{Left, closed_templates, closed_append, templates_append}
use Rattle.pending_drain.specs.Handing.{zeros}
use Rattle.pending_drain.proofs.Handing.{length_zeros}

module _ (b : List ℕ) (n : ℕ) (held : List TemplateRecord) (t : TemplateRecord) (es : List Entry) where
  -- how many of the handed-out bodies go, the entries that are left, and how many each label has left
  abbrev skip : List ℕ
  skip = set zeros t.label (t.count - n)

  abbrev pub left : List Entry
  left = swept everything skip es

  abbrev pub kept : List ℕ
  kept = label_counts_but 1024 left

  -- the bodies handed out, and those that are put back
  abbrev handed : List Body
  handed = bodies_at b t.label es

  abbrev pub back : List Body
  back = drop (length handed - n) handed

  module _ {is : List ℕ} (tied : Tied (held ++ (t ∷ [])) es is) (within : Within (length b) es)
      (short : All (λ e. e.len ≤ len_most) es) (few : length es ≤ sum_most) (some : 0 < n) (enough : n ≤ t.count) where
    label_small : t.label < 1024
    label_small = (all_back (λ r. r.label < 1024) held (t ∷ []) tied.labels_small).0

    handed_long : length handed ≡ t.count
    handed_long =
        length_bodies b t.label es
        ∙ sym (all_back (λ r. r.count ≡ tally r.label es) held (t ∷ []) tied.counts_right).0

    bodies_left : (k m : ℕ) → k < 1024 → get_or skip k 0 ≡ m → bodies_at b k left ≡ drop m (bodies_at b k es)
    bodies_left k m small e =
        swept_bodies b everything k skip es (omega (arith, length_zeros, length-set zeros t.label (t.count - n)))
        within
        ∙ ap (drop (get_or skip k 0)) (everything_stays b k es within short)
        ∙ ap (λ (j : ℕ). drop j (bodies_at b k es)) e

    count_left : (k : ℕ) → k < 1024 → get_or kept k 0 ≡ length (bodies_at b k left)
    count_left k small =
        get_or-set_other (label_counts left) 1024 k 0 0 (λ d. omega arith)
        ∙ label_counts_lem left (omega (arith, length_swept everything skip es))
        (all_swept (λ e. e.len ≤ len_most) everything skip es short) k small
        ∙ sym (length_bodies b k left)

    -- ---- the held templates

    others_left : All (λ r. Left b (λ j bs. bs) kept es left r) held
    others_left =
        all_both (λ r. r.label < 1024) (λ r. All (λ u. r.label ≢ u.label) (t ∷ []))
        (λ r. Left b (λ j bs. bs) kept es left r) each held (all_front (λ r. r.label < 1024) held (t ∷ [])
        tied.labels_small) (differ_across (λ r. r.label) held (t ∷ []) tied.labels_differ)
      where
        each : (r : TemplateRecord) → r.label < 1024 → All (λ u. r.label ≢ u.label) (t ∷ []) →
            Left b (λ j bs. bs) kept es left r
        each r small d =
            let none : get_or skip r.label 0 ≡ 0 =
            get_or-set_other zeros t.label r.label (t.count - n) 0 d.0
            ∙ get_or-replicate {A = ℕ} 1024 r.label 0 0 small in
            let whole : bodies_at b r.label left ≡ bodies_at b r.label es =
            bodies_left r.label 0 small none in
            (count_left r.label small ∙ ap length whole, λ p. whole)

    held_left : Parts.Filled (templates_at b es held) → templates_at b left (closed kept held) ≡ templates_at b es held
    held_left filled =
        closed_templates b kept es left held (λ j bs. bs) others_left
        ∙ thinned_all (λ j bs. bs) (templates_at b es held) filled
        (all_of (λ u. u.bodies ≡ u.bodies) (templates_at b es held) (λ u. refl))

    -- ---- the handed-out one

    back_left : bodies_at b t.label left ≡ back
    back_left =
        let skipped : get_or skip t.label 0 ≡ t.count - n =
        get_or-set_same zeros t.label (t.count - n) 0 (omega (arith, length_zeros, label_small)) in
        bodies_left t.label (t.count - n) label_small skipped
        ∙ ap (λ (k : ℕ). drop (k - n) handed) (sym handed_long)

    record_left : closed kept (t ∷ []) ≡ recounted kept t ∷ []
    unfolding closed
    record_left =
        let some_left : 0 < get_or kept t.label 0 =
        omega (
          arith,
          count_left t.label label_small,
          ap length back_left,
          length-drop (length handed - n) handed,
          handed_long,
        ) in
        rw (lt-ltb 0 (get_or kept t.label 0) some_left)

    pub restored_templates : Parts.Filled (templates_at b es held) →
        templates_at b left (closed kept (held ++ (t ∷ [])))
        ≡ templates_at b es held ++ (record { id = t.key; bodies = back } ∷ [])
    restored_templates filled =
        ap (templates_at b left) (closed_append kept held (t ∷ []))
        ∙ templates_append b left (closed kept held) (closed kept (t ∷ []))
        ∙ rw (held_left filled, record_left, back_left)
