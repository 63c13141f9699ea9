-- What a planned removal leaves: of each held template the bodies that the plan leaves, of what is handed out nothing.
-- Assumes nothing.
use mathlib.Core.Path.{◌≡◌, refl, sym, ap, ◌∙◌}
use mathlib.Core.Bool.{true, cond}
use mathlib.Core.List.{List, [], ◌∷◌, append-nil}
use Prim.Native.Nat.{ℕ, ◌+◌, ◌*◌, ◌≤◌, ◌<◌}
use native.Mathlib.Omega.{arith}
use native.Mathlib.Decide.{ℕ_discrete}
use lib.Dec.{eqb}
use lib.ListN.{length, get_or, drop, take-append-drop, length-drop}
use lib.Seq.{get_or-set_other}
use borrow.Author.Tests.{eq-eqb, ne_eqb}
use Rattle.config.specs.Limits.{record_words, words_needed}
use Rattle.config.proofs.Limits.{cap_small}
use Rattle.config.proofs.Lists.{All, all_both, all_front, all_back}
use Rattle.areas.proofs.Puts.{drop_more}
use Rattle.table.specs.declared.Entry.{Entry}
use Rattle.table.specs.declared.TemplateRecord.{TemplateRecord}
use Rattle.table.specs.Layout.{limits_of, held_count, entry_count, chance_count, entries_at, records_at}
use Rattle.table.specs.Table.{table_of, entries_from, records_from, records, tally}
use Rattle.table.specs.WellFormed.{well_formed}
use Rattle.table.proofs.Words.{length_entries, length_records}
use Rattle.table.proofs.Facts.{Placed, LegalRecord, LegalWords, words_say}
use Rattle.table_entries.specs.Sums.{lens_sum}
use Rattle.table_entries.specs.Sweep.{swept}
use Rattle.table_entries.proofs.Lengths.{placed_wider}
use Rattle.table_entries.proofs.Swept.{length_swept, all_swept}
use Rattle.table_records.specs.Choose.{skip_all}
use Rattle.table_records.specs.Close.{closed}
use Rattle.cache_model.specs.Bodies.{Body, Template, size, expired, keep}
use Rattle.cache_model.proofs.Lists.{length_part}
use Rattle.cache_model.proofs.Parts.{sub_keep}
use Rattle.cache_model.proofs.Plans.{thin}
use Rattle.cache_model.proofs.Thinning.{thinned}
use Rattle.pending_flows.specs.declared.header.HeaderFigures.{HeaderFigures}
use Rattle.pending_flows.specs.declared.header.Header.{Header}
use Rattle.pending_flows.specs.Header.{HoldsCache}
use Rattle.pending_flows.specs.View.{bodies_at, templates_at, cache_of}
use Rattle.pending_flows.proofs.Templates.{length_bodies}
use Rattle.table_view.proofs.Swept.{Within, body_stays, placed_within, swept_bodies, swept_tally}
use Rattle.table_view.proofs.Closed.{Left, closed_templates, closed_append, closed_none}
use Rattle.table_view.proofs.Removed.{label_counts, label_counts_but, label_counts_lem, none_set, placed_short}
use Rattle.table_view.proofs.Summed.{len_most}
use Rattle.pending_calls.specs.declared.removal.Removed.{Removed}
use Rattle.pending_calls.proofs.RemovedLemmas.{TiedRowsApart, placed_left, apart_left, rows_left, rows_tied}
use Rattle.pending_calls.proofs.RemovedLemmas.{bytes_left, rows_placed, few_templates, few_bodies, total_short}
use Rattle.offer_plan.specs.declared.plan.OfferPlan.{OfferPlan}
use Rattle.offer_plan.specs.Plan.{plan_test, skip_of, Plans}
use Rattle.offer_plan.proofs.Skips.{skips_long}
use Rattle.planned_removal.specs.Planned.{PlannedAll, RemovesPlanned}

-- the entries that stay by a plan
abbrev pub staying : List ℕ → ℕ → OfferPlan → List Entry
staying w clock plan = swept (plan_test (limits_of w) clock plan) (skip_of w plan) (table_of w).entries

module _ (w b : List ℕ) (ok : well_formed w (length b) ≡ true) (clock : ℕ) (plan : OfferPlan) where
  legal : LegalWords w (length b)
  legal = words_say w (length b) ok

  abbrev held : List TemplateRecord
  held = (table_of w).held

  abbrev handed : List TemplateRecord
  handed = (table_of w).handed

  abbrev entries : List Entry
  entries = (table_of w).entries

  -- the templates before
  abbrev templates : List Template
  templates = (cache_of (table_of w) b).held

  abbrev skip : List ℕ
  skip = skip_of w plan

  abbrev stay : List Entry
  stay = staying w clock plan

  abbrev Legal : TemplateRecord → Type 0
  Legal = LegalRecord (limits_of w) entries

  pub held_legal : All Legal held
  held_legal = all_front Legal held handed legal.table_legal_lem.records_legal

  handed_legal : All Legal handed
  handed_legal = all_back Legal held handed legal.table_legal_lem.records_legal

  lies_within : Within (length b) entries
  lies_within =
      placed_within 0 (length b) entries
      (placed_wider 0 (limits_of w).max_total_bytes (length b) entries legal.limits_legal_lem.bytes_enough
      legal.table_legal_lem.entries_placed)

  -- how many bodies of each label stay
  counted : (k : ℕ) → k < 1024 → get_or (label_counts stay) k 0 ≡ tally k stay
  counted k small =
      let q = plan_test (limits_of w) clock plan in
      label_counts_lem stay
      (omega (arith, length_swept q skip entries, length_entries w 64 (entry_count w), few_bodies w (length b) legal))
      (all_swept (λ e. e.len ≤ len_most) q skip entries
      (placed_short 0 (limits_of w).max_total_bytes len_most entries (total_short w (length b) legal)
      legal.table_legal_lem.entries_placed)) k small

  module _ (i len : ℕ) (plans : Plans w b i len clock plan) where
    handed_leaving : All (λ u. tally u.label stay ≡ 0) handed
    handed_leaving =
        all_both Legal (λ u. get_or skip u.label 0 ≡ skip_all) (λ u. tally u.label stay ≡ 0) leaving handed
        handed_legal plans.ends_chance
      where
        leaving : (u : TemplateRecord) → Legal u → get_or skip u.label 0 ≡ skip_all → tally u.label stay ≡ 0
        leaving u h all =
            let q = plan_test (limits_of w) clock plan in
            let bs = bodies_at b u.label entries in
            let ys = keep (body_stays q u.label) bs in
            let most = cap_small (limits_of w) (length b) (length w) legal.limits_legal_lem in
            swept_tally b q u.label skip entries (omega (arith, h.label_small, skips_long w plan)) lies_within
            ∙ omega (
              arith,
              length-drop (get_or skip u.label 0) ys,
              length_part (sub_keep (body_stays q u.label) bs),
              length_bodies b u.label entries,
              h.count_right,
              h.within_cap,
            )

    -- so where every body stays, nothing is handed out
    none_handed : {h : Header} → HoldsCache h w (length b) → plan.none ≡ true → h.figures.chance ≡ 0
    none_handed holds none =
        omega (
          arith,
          ap (λ (g : HeaderFigures). g.chance) holds.figures,
          no_records handed handed_legal handed_leaving,
          length-drop (held_count w) (records w),
          length_records w (records_at (limits_of w)) (held_count w + chance_count w),
        )
      where
        no_records : (us : List TemplateRecord) → All Legal us → All (λ u. tally u.label stay ≡ 0) us →
            length us ≡ 0
        no_records [] a none_stay = refl
        no_records (u ∷ us) a none_stay =
            absurd (omega (
              arith,
              a.0.some_bodies,
              a.0.count_right,
              none_stay.0,
              ap (tally u.label) (plans.keeps_all none),
            ))

    pub planned : {h : Header} → HoldsCache h w (length b) → PlannedAll h clock plan w (length b)
    planned holds = record {
      planned = record { holds = holds; none_expired = plans.none_expired };
      keeps_all = plans.keeps_all;
      none_handed = none_handed holds;
    }

    module _ (x : Body) (sized : size x ≡ len) where
      -- what the plan leaves of a template's bodies
      abbrev leaves : ℕ → List Body → List Body
      leaves = thin (limits_of w) (expired (limits_of w).ttl clock) i x templates

      pub bodies_left : All (λ u. bodies_at b u.label stay ≡ leaves u.key (bodies_at b u.label entries)) held
      bodies_left =
          let q = plan_test (limits_of w) clock plan in
          all_both Legal _ (λ u. bodies_at b u.label stay ≡ leaves u.key (bodies_at b u.label entries))
          (λ u h thins. swept_bodies b q u.label skip entries (omega (arith, h.label_small, skips_long w plan))
          lies_within ∙ thins) held held_legal (plans.thins x sized)

    -- the bodies of the label `apart` are not counted, and its record goes
    module _ (apart : ℕ) where
      abbrev kept : List ℕ
      kept = label_counts_but apart stay

      kept_other : (k : ℕ) → k < 1024 → (k ≡ apart → ⊥) → get_or kept k 0 ≡ tally k stay
      kept_other k small d = get_or-set_other (label_counts stay) apart k 0 0 d ∙ counted k small

      kept_none : (k : ℕ) → k ≡ apart → get_or kept k 0 ≡ 0
      kept_none k e = rw e (none_set (label_counts stay) apart)

      handed_closed : closed kept handed ≡ []
      handed_closed =
          closed_none kept handed
          (all_both Legal (λ u. tally u.label stay ≡ 0) (λ u. get_or kept u.label 0 ≡ 0) leaving handed handed_legal
          handed_leaving)
        where
          leaving : (u : TemplateRecord) → Legal u → tally u.label stay ≡ 0 → get_or kept u.label 0 ≡ 0
          leaving u h none = by_label (ℕ_discrete u.label apart)
            where
              by_label : Dec (u.label ≡ apart) → get_or kept u.label 0 ≡ 0
              by_label (yes e) = kept_none u.label e
              by_label (no d) = kept_other u.label h.label_small d ∙ none

      -- only held records remain
      pub records_left : closed kept (records w) ≡ closed kept held
      records_left =
          ap (closed kept) (sym (take-append-drop (held_count w) (records w)))
          ∙ closed_append kept held handed
          ∙ rw handed_closed (append-nil (closed kept held))

      -- and these are their templates, where f leaves what stays, but nothing of the label apart
      module _ (f : ℕ → List Body → List Body) where
        abbrev Leaves : TemplateRecord → Type 0
        Leaves u = f u.key (bodies_at b u.label entries)
            ≡ cond (eqb apart u.label) [] (bodies_at b u.label stay)

        pub templates_left : All Leaves held → templates_at b stay (closed kept held) ≡ thinned f templates
        templates_left is =
            closed_templates b kept entries stay held f
            (all_both Legal Leaves (Left b f kept entries stay) each held held_legal is)
          where
            each : (u : TemplateRecord) → Legal u → Leaves u → Left b f kept entries stay u
            each u h is = by_label (ℕ_discrete u.label apart)
              where
                by_label : Dec (u.label ≡ apart) → Left b f kept entries stay u
                by_label (yes e) =
                    let none : f u.key (bodies_at b u.label entries) ≡ [] =
                    is ∙ rw (eq-eqb apart u.label (sym e)) in (
                      kept_none u.label e ∙ sym (ap length none),
                      λ some. absurd (omega (arith, ap length none)),
                    )
                by_label (no d) =
                    let bodies : bodies_at b u.label stay ≡ f u.key (bodies_at b u.label entries) =
                    sym (is ∙ rw (ne_eqb apart u.label (λ e. d (sym e)))) in (
                      kept_other u.label h.label_small d ∙ sym (length_bodies b u.label stay)
                          ∙ ap length bodies,
                      λ some. bodies,
                    )

-- the rows after the removal: the words that are left
module _ (w b : List ℕ) (ok : well_formed w (length b) ≡ true) (i clock len apart : ℕ) {plan : OfferPlan}
    (plans : Plans w b i len clock plan) {w₁ : List ℕ} {left : Removed}
    (done : RemovesPlanned clock plan apart w w₁ left) where
  abbrev most : ℕ
  most = (limits_of w).max_total_bytes

  said : LegalWords w (length b)
  said = words_say w (length b) ok

  pub left_rows : TiedRowsApart apart (records_at (limits_of w)) left.records left.entries w₁
  left_rows =
      rows_left (rows_tied w (length b) said) most (rows_placed w (length b) said) (few_templates w (length b) said)
      (few_bodies w (length b) said) (total_short w (length b) said) done

  pub left_placed : Placed 0 most (entries_from w₁ entries_at left.entries)
  left_placed =
      placed_left (rows_tied w (length b) said) most (rows_placed w (length b) said) (few_templates w (length b) said)
      (few_bodies w (length b) said) (total_short w (length b) said) done

  pub left_bytes : left.bytes ≡ lens_sum (entries_from w₁ entries_at left.entries)
  left_bytes =
      bytes_left (rows_tied w (length b) said) most (rows_placed w (length b) said) (few_templates w (length b) said)
      (few_bodies w (length b) said) (total_short w (length b) said) done

  -- the bodies apart
  pub left_apart : apart < 1024 → left.apart ≡ tally apart (entries_from w₁ entries_at left.entries)
  left_apart =
      apart_left (rows_tied w (length b) said) most (rows_placed w (length b) said) (few_templates w (length b) said)
      (few_bodies w (length b) said) (total_short w (length b) said) done

  pub left_entries : entries_from w₁ entries_at left.entries ≡ staying w clock plan
  left_entries = done.entries

  pub left_records : records_from w₁ (records_at (limits_of w)) left.records
      ≡ closed (label_counts_but apart (staying w clock plan)) (table_of w).held
  left_records =
      done.records
      ∙ records_left w b ok clock plan i len plans apart

  pub left_behind : drop (words_needed (limits_of w)) w₁ ≡ drop (words_needed (limits_of w)) w
  left_behind =
      let l = limits_of w in
      drop_more (words_needed l) (records_at l + record_words * (held_count w + chance_count w)) w₁ w
      (omega (arith, said.templates_fit)) done.tail
