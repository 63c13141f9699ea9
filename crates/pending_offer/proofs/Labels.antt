-- The label under which an accepted body is stored: its own template's, or a free one. Assumes nothing.
use Rattle.std.proofs.Common.{Option, Some, None}
use Rattle.std.proofs.lemmas.Option.{none-some, same_Some}
use mathlib.Core.Path.{◌≡◌, refl, sym, ap, ◌∙◌, subst}
use mathlib.Core.Logic.{◌≢◌}
use mathlib.Core.Bool.{Bool, true, false, cond}
use mathlib.Core.List.{List, [], ◌∷◌, ◌++◌}
use Prim.Native.Nat.{ℕ, ◌+◌, ◌*◌, ◌≤◌, ◌<◌}
use native.Mathlib.Omega.{arith}
use lib.Dec.{eqb}
use lib.ListN.{length, get_or, replicate, length-append, length-replicate, get_or-eq_default}
use borrow.Author.Tests.{eqb-true, eq-eqb}
use Rattle.config.specs.declared.PendingFlowsConfig.{PendingFlowsConfig}
use Rattle.config.proofs.Lists.{All, all_map, all_both}
use Rattle.config.specs.Limits.{record_words}
use Rattle.table.specs.declared.Entry.{Entry}
use Rattle.table.specs.declared.TemplateRecord.{TemplateRecord}
use Rattle.table.specs.Layout.{limits_of, entries_at, records_at}
use Rattle.table.specs.Table.{table_of, entries_from, records_from, index_from, tally}
use Rattle.table.specs.Reads.{label_of, label_or_none}
use Rattle.table.specs.WellFormed.{well_formed}
use Rattle.table.proofs.Words.{length_records}
use Rattle.table.proofs.Facts.{LegalRecord, LegalWords, words_say}
use Rattle.table.proofs.Labels.{absent_says, absent_tally}
use Rattle.table.proofs.FoundLabels.{found_has, label_for}
use Rattle.table_entries.proofs.Swept.{all_swept}
use Rattle.table_entries.proofs.LabelSums.{length_summed}
use Rattle.table_records.specs.Choose.{FreeLabel}
use Rattle.table_records.specs.Close.{closed}
use Rattle.table_records.proofs.Closed.{closed_all}
use Rattle.cache_model.specs.Bodies.{Body, size, bodies_of}
use Rattle.cache_model.specs.Offer.{settled}
use Rattle.cache_model.proofs.Thinning.{thinned}
use Rattle.pending_flows.specs.View.{cache_of, bodies_at, templates_at}
use Rattle.pending_flows.proofs.Templates.{length_templates, no_bodies, found_bodies}
use Rattle.table_view.proofs.Tied.{Tied, none_above, words_tied, front_alone, entries_small, no_label_tied}
use Rattle.table_view.proofs.Tied.{tied_apart}
use Rattle.table_view.proofs.Removed.{label_counts_but, label_counts, none_set}
use Rattle.table_view.proofs.Summed.{everything}
use Rattle.pending_calls.specs.declared.removal.Removed.{Removed}
use Rattle.pending_calls.proofs.RemovedLemmas.{TiedRowsApart}
use Rattle.offer_plan.specs.declared.plan.OfferPlan.{OfferPlan}
use Rattle.offer_plan.specs.Plan.{plan_test, skip_of, Plans}
use Rattle.offer_steps.specs.Room.{ChoosesLabel}
use Rattle.planned_removal.specs.Planned.{RemovesPlanned}
use Rattle.pending_offer.proofs.Settled.{outcome, settled_limited}
use Rattle.pending_offer.proofs.Left.{staying, held_legal, bodies_left, templates_left}
use Rattle.pending_offer.proofs.Left.{left_rows, left_apart, left_entries, left_records}
use Rattle.pending_offer.proofs.Outcomes.{leaves, others, leaves_nothing, accepted_held}

-- A label a that no record has, under which the bodies bs are stored. A record for it can be added.
pub record Chosen (p : ℕ) (left : Removed) (w b : List ℕ) (bs : List Body) (a : ℕ) : Type 0 where
  pub below : a < 1024
  pub tied : TiedRowsApart a p left.records left.entries w
  pub bodies : bodies_at b a (entries_from w entries_at left.entries) ≡ bs
  pub count : left.apart ≡ tally a (entries_from w entries_at left.entries)

-- a label that is found is a record's
found_small : (i : ℕ) (rs : List TemplateRecord) → All (λ u. u.label < 1024) rs → (k : ℕ) → label_of i rs ≡ Some k →
    k < 1024
unfolding label_of
found_small i [] small k e = absurd (none-some k e)
found_small i (r ∷ rs) small k e = by_key (eqb i r.key) (found_small i rs small.1 k) e
  where
    by_key : (t : Bool) → (label_of i rs ≡ Some k → k < 1024) → cond t (Some r.label) (label_of i rs) ≡ Some k →
        k < 1024
    by_key true ih e = let same : r.label ≡ k = same_Some r.label k e in omega (arith, small.0, same)
    by_key false ih e = ih e

module _ (w b : List ℕ) (ok : well_formed w (length b) ≡ true) (i : ℕ) (x : Body)
    (small : size x ≤ (limits_of w).max_entry_size_bytes) {plan : OfferPlan}
    (plans : Plans w b i (size x) x.clock plan) where
  legal : LegalWords w (length b)
  legal = words_say w (length b) ok

  abbrev entries : List Entry
  entries = (table_of w).entries

  abbrev held : List TemplateRecord
  held = (table_of w).held

  abbrev stay : List Entry
  stay = staying w x.clock plan

  -- the label of the id, as a number
  abbrev own_label : ℕ
  own_label = label_or_none plan.label

  abbrev Legal : TemplateRecord → Type 0
  Legal = LegalRecord (limits_of w) entries

  -- a held record has the id exactly where it has the plan's label
  agrees : All (λ u. eqb own_label u.label ≡ eqb i u.key) held
  agrees = rw plans.label (front_alone i held (table_of w).handed (words_tied w (length b) legal))

  all_labels : All (λ e. e.label < 1024) entries
  all_labels =
      let tied = words_tied w (length b) legal in
      entries_small (held ++ (table_of w).handed) entries tied.labels_small tied.labels_known

  none_before : tally 1024 entries ≡ 0
  none_before = none_above entries all_labels

  none_stay : tally 1024 stay ≡ 0
  none_stay =
      none_above stay
      (all_swept (λ e. e.label < 1024) (plan_test (limits_of w) x.clock plan) (skip_of w plan) entries all_labels)

  -- the other ids' templates
  others_stay : templates_at b stay (closed (label_counts_but own_label stay) held)
      ≡ thinned (others w b ok i x small) (cache_of (table_of w) b).held
  others_stay =
      templates_left w b ok x.clock plan i (size x) plans own_label (others w b ok i x small)
      (all_both (λ u. eqb own_label u.label ≡ eqb i u.key) _ _ (λ u e g. rw (e, g)) held agrees
      (bodies_left w b ok x.clock plan i (size x) plans x refl))

  -- the id's own bodies
  own_stay : bodies_at b own_label stay ≡ leaves w b ok i x small i (bodies_of i (cache_of (table_of w) b).held)
  own_stay =
      let f = leaves w b ok i x small in
      let own : bodies_at b (label_for i held) stay ≡ f i (bodies_at b (label_for i held) entries) =
      found_has i (λ j k. bodies_at b k stay ≡ f j (bodies_at b k entries)) held
      (bodies_left w b ok x.clock plan i (size x) plans x refl)
      (rw (no_bodies b 1024 stay none_stay, no_bodies b 1024 entries none_before)
      (sym (leaves_nothing w b ok i x small))) in
      ap (λ (o : Option ℕ). bodies_at b (label_or_none o) stay) plans.label ∙ own
      ∙ ap (f i) (sym (found_bodies b i entries held none_before))

  -- no record that remains has the id
  keys_fresh : All (λ u. u.key ≢ i) (closed (label_counts_but own_label stay) held)
  keys_fresh =
      closed_all kept (λ u. eqb own_label u.label ≡ eqb i u.key) (λ u. u.key ≢ i)
      (λ u e some same. omega (
        arith,
        none_set (label_counts stay) own_label,
        ap (λ (k : ℕ). get_or kept k 0) (eqb-true own_label u.label (e ∙ eq-eqb i u.key (sym same))),
      )) held agrees
    where
      kept : List ℕ
      kept = label_counts_but own_label stay

  module _ (room : plan.full ≡ false) {w₁ : List ℕ} {left : Removed}
      (done : RemovesPlanned x.clock plan own_label w w₁ left) where
    abbrev from : ℕ
    from = records_at (limits_of w)

    abbrev entries₁ : List Entry
    entries₁ = entries_from w₁ entries_at left.entries

    abbrev records₁ : List TemplateRecord
    records₁ = records_from w₁ from left.records

    entries_are : entries₁ ≡ stay
    entries_are = left_entries w b ok i x.clock (size x) own_label plans done

    records_are : records₁ ≡ closed (label_counts_but own_label stay) held
    records_are = left_records w b ok i x.clock (size x) own_label plans done

    pub others_left : templates_at b entries₁ records₁ ≡ thinned (others w b ok i x small)
        (cache_of (table_of w) b).held
    others_left = rw (entries_are, records_are) others_stay

    pub fresh_left : All (λ u. u.key ≢ i) records₁
    fresh_left = rw records_are keys_fresh

    -- there is room for one record more
    pub few_left : left.records < (limits_of w).max_pending_flows
    unfolding settled
    few_left =
        let ts = (cache_of (table_of w) b).held in
        let own = leaves w b ok i x small i (bodies_of i ts) ++ (x ∷ []) in
        omega (
          arith,
          (settled_limited w b ok i x small).within.few,
          length-append (outcome w b ok i x small).left.held [],
          length-append (thinned (others w b ok i x small) ts) (record { id = i; bodies = own } ∷ []),
          length_templates b entries₁ records₁,
          length_records w₁ from left.records,
          ap length others_left,
          ap length (accepted_held w b ok i x small plans room),
        )

    abbrev own : List Body
    own = leaves w b ok i x small i (bodies_of i (cache_of (table_of w) b).held)

    own_left : bodies_at b own_label entries₁ ≡ own
    own_left = rw entries_are own_stay

    -- the id is held: its label
    held_chosen : (k : ℕ) → plan.label ≡ Some k → Chosen from left w₁ b own k
    held_chosen k e =
        let small : k < 1024 =
        found_small i held
        (all_map Legal (λ u. u.label < 1024) (λ u h. h.label_small) held (held_legal w b ok x.clock plan)) k
        (sym plans.label ∙ e) in
        let same : own_label ≡ k = ap label_or_none e in
        let below : own_label < 1024 = omega (arith, small, same) in
        subst (Chosen from left w₁ b own) same
        (record {
          below = below;
          tied = left_rows w b ok i x.clock (size x) own_label plans done;
          bodies = own_left;
          count = left_apart w b ok i x.clock (size x) own_label plans done below;
        })

    -- the records that are left lie within words as long, and are fewer than there are labels
    pub left_within : {p : ℕ} {l : PendingFlowsConfig} (v : List ℕ) → p ≡ records_at l → l ≡ limits_of w →
        length v ≡ length w → p + record_words * left.records ≤ length v
    left_within {p} v start limits long =
        let z : p ≡ records_at (limits_of w) = start ∙ ap records_at limits in
        omega (arith, z, few_left, long, legal.limits_legal_lem.words_enough)

    pub left_few : {n : ℕ} → n ≡ left.records → n < 1024
    left_few as_many = omega (arith, as_many, few_left, legal.limits_legal_lem.templates_few)

    -- it is not: a label that no record has
    module _ (unlabelled : plan.label ≡ None) (a : ℕ) (free : FreeLabel records₁ a) where
      none : own_label ≡ 1024
      none = ap label_or_none unlabelled

      tied₁ : Tied records₁ entries₁ (index_from w₁ from left.records)
      tied₁ =
          no_label_tied
          (subst (λ (k : ℕ). TiedRowsApart k from left.records left.entries w₁) none
          (left_rows w b ok i x.clock (size x) own_label plans done))

      untallied : tally a entries₁ ≡ 0
      untallied = absent_tally a records₁ entries₁ (absent_says a records₁ free.absent) tied₁.labels_known

      none_apart : get_or (label_counts stay) own_label 0 ≡ 0
      none_apart =
          let long : length (replicate {A = ℕ} 1024 0) ≡ 1024 = length-replicate {A = ℕ} 1024 0 in
          get_or-eq_default (label_counts stay) 0 {n = own_label}
          (omega (arith, none, length_summed everything false (replicate 1024 0) stay))

      free_chosen : Chosen from left w₁ b own a
      free_chosen = record {
        below = free.below;
        tied = tied_apart free.absent tied₁;
        bodies = no_bodies b a entries₁ untallied
            ∙ sym (no_bodies b own_label entries₁ (rw (none, entries_are) none_stay)) ∙ own_left;
        count = done.bodies_apart ∙ none_apart ∙ sym untallied;
      }

    pub label_chosen : {a : ℕ} → ChoosesLabel plan.label records₁ a → Chosen from left w₁ b own a
    label_chosen {a} is = by_label plan.label refl
      where
        by_label : (o : Option ℕ) → plan.label ≡ o → Chosen from left w₁ b own a
        by_label (Some k) e = subst (Chosen from left w₁ b own) (sym (is.held k e)) (held_chosen k e)
        by_label None e = free_chosen e a (is.free e)
