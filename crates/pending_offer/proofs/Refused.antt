-- An offer that is turned down with 20: what the planned removal leaves is what the definition leaves. Assumes nothing.
use mathlib.Core.Path.{◌≡◌, refl, sym, ap, ◌∙◌}
use mathlib.Core.Bool.{true, cond}
use mathlib.Core.List.{List, []}
use Prim.Native.Nat.{ℕ, ◌+◌, ◌-◌, ◌^◌, ◌≤◌, ◌<◌}
use native.Mathlib.Omega.{arith}
use lib.Dec.{eqb}
use lib.ListN.{length}
use borrow.Author.Tests.{ne_eqb}
use Rattle.areas.specs.Overwrite.{overwritten}
use Rattle.config.specs.declared.PendingFlowsConfig.{PendingFlowsConfig}
use Rattle.config.specs.Limits.{header_words}
use Rattle.config.proofs.Lists.{all_both}
use Rattle.table.specs.Layout.{limits_of, entries_at, records_at}
use Rattle.table.specs.Table.{table_of, entries_from, records_from}
use Rattle.table.proofs.Words.{length_entries}
use Rattle.table.proofs.Facts.{Placed, LegalRecord, LegalWords, words_say}
use Rattle.cache_model.specs.Bodies.{Body, all_bodies}
use Rattle.cache_model.specs.Cache.{number}
use Rattle.cache_model.specs.Offer.{refused, offered}
use Rattle.pending_flows.specs.View.{areas_of, cache_of, bodies_at, templates_at}
use Rattle.pending_flows.specs.declared.header.HeaderFigures.{HeaderFigures}
use Rattle.pending_flows.specs.declared.header.Header.{Header}
use Rattle.pending_flows.specs.Header.{HoldsCache, header_of}
use Rattle.table_view.proofs.Tied.{no_label_tied}
use Rattle.pending_calls.specs.declared.removal.Removed.{Removed}
use Rattle.pending_calls.specs.Promises.{Does}
use Rattle.pending_calls.proofs.RemovedLemmas.{TiedRows}
use Rattle.offer_plan.specs.declared.plan.OfferPlan.{OfferPlan}
use Rattle.offer_plan.specs.Plan.{Plans}
use Rattle.pending_offer.specs.Promises.{body_of, FitsEntry}
use Rattle.pending_offer.proofs.Offered.{fits_small}
use Rattle.offer_steps.specs.Settle.{settled_figures}
use Rattle.offer_steps.proofs.HeldBodies.{held_most}
use Rattle.planned_removal.specs.Planned.{RemovesPlanned}
use Rattle.pending_offer.proofs.Settled.{outcome, drops_counted, settled_does}
use Rattle.pending_offer.proofs.Left.{held_legal, left_rows, left_placed, left_bytes, left_entries}
use Rattle.pending_offer.proofs.Left.{left_records, left_behind, staying, bodies_left, templates_left}
use Rattle.pending_offer.proofs.Outcomes.{leaves, refused_verdict, refused_held}

-- The words w, the bytes b and their header h before the offer of a body under the id i; the plan; the words that the
-- removal leaves.
pub record Refusing (w b : List ℕ) (h : Header) (i : ℕ) (body : List ℕ) (clock : ℕ) (plan : OfferPlan) (w₁ : List ℕ)
    (left : Removed) : Type 0 where
  pub holds : HoldsCache h w (length b)
  pub small : length body ≤ (limits_of w).max_entry_size_bytes
  pub plans : Plans w b i (length body) clock plan
  pub full : plan.full ≡ true
  pub removed : RemovesPlanned clock plan 1024 w w₁ left
  pub long : length w₁ ≡ length w

-- what is known once the bodies that the plan names are removed
pub refusing : (w b : List ℕ) {h : Header} {i : ℕ} {body : List ℕ} {clock : ℕ} {plan : OfferPlan} {w₁ : List ℕ}
    {left : Removed} → FitsEntry h body w (length b) →
    Plans w b i (length body) clock plan × (plan.full ≡ true) → RemovesPlanned clock plan 1024 w w₁ left →
    length w₁ ≡ length w → Refusing w b h i body clock plan w₁ left
refusing w b fits plans removed long = record {
  holds = fits.cache;
  small = fits_small fits;
  plans = plans.0;
  full = plans.1;
  removed = removed;
  long = long;
}

module _ {w b : List ℕ} {h : Header} {i : ℕ} {body : List ℕ} {clock : ℕ} {plan : OfferPlan} {w₁ : List ℕ}
    {left : Removed} (known : Refusing w b h i body clock plan w₁ left) where
  legal : LegalWords w (length b)
  legal = words_say w (length b) known.holds.legal

  abbrev l : PendingFlowsConfig
  l = limits_of w

  abbrev x : Body
  x = body_of body clock

  rows : TiedRows (records_at l) left.records left.entries w₁
  rows = no_label_tied (left_rows w b known.holds.legal i clock (length body) 1024 known.plans known.removed)

  placed : Placed 0 l.max_total_bytes (entries_from w₁ entries_at left.entries)
  placed = left_placed w b known.holds.legal i clock (length body) 1024 known.plans known.removed

  verdict : (outcome w b known.holds.legal i x known.small).verdict ≡ refused 20
  verdict = refused_verdict w b known.holds.legal i x known.small known.plans known.full

  -- no label is apart
  held_left : templates_at b (entries_from w₁ entries_at left.entries) (records_from w₁ (records_at l) left.records)
      ≡ (outcome w b known.holds.legal i x known.small).left.held
  held_left =
      let es = (table_of w).entries in
      let f = leaves w b known.holds.legal i x known.small in
      let Legal = LegalRecord l es in
      rw (
        left_entries w b known.holds.legal i clock (length body) 1024 known.plans known.removed,
        left_records w b known.holds.legal i clock (length body) 1024 known.plans known.removed,
      )
      (templates_left w b known.holds.legal clock plan i (length body) known.plans 1024 f
      (all_both Legal _ (λ u. f u.key (bodies_at b u.label es)
      ≡ cond (eqb 1024 u.label) [] (bodies_at b u.label (staying w clock plan)))
      (λ u h e. rw (ne_eqb 1024 u.label (λ d. omega (arith, h.label_small))) (sym e)) (table_of w).held
      (held_legal w b known.holds.legal clock plan)
      (bodies_left w b known.holds.legal clock plan i (length body) known.plans x refl))
      ∙ sym (refused_held w b known.holds.legal i x known.small known.plans known.full))

  pub refused_settles : header_words ≤ length w₁
  refused_settles = omega (arith, known.long, legal.header_long)

  -- how many bodies are held before, n, and how many of them go
  module _ {n : ℕ} (before : n ≡ length (all_bodies (cache_of (table_of w) b).held)) where
    counted : length (outcome w b known.holds.legal i x known.small).left.removed + left.entries ≡ n
    counted =
        omega (
          arith,
          drops_counted w b known.holds.legal i x known.small verdict b rows held_left,
          length_entries w₁ entries_at left.entries,
        )

    pub refused_fewer : left.entries ≤ n
    refused_fewer = omega (arith, counted)

    pub drops_fit : n - left.entries + 1 < 2 ^ 64
    drops_fit =
        omega (
          arith,
          held_most w b known.holds,
          ap (λ (g : HeaderFigures). g.entries) known.holds.figures,
          legal.entries_fit,
          legal.limits_legal_lem.bodies_few,
        )

    pub refused_does : {w' : List ℕ} →
        w' ≡ overwritten w₁ (header_of h.limits (settled_figures h.figures 0 (n - left.entries + 1)
        left.bytes left.records left.entries)) →
        Does (offered i x) (cache_of (table_of w) b) (areas_of w b) (number 20) (areas_of w' b)
    refused_does written =
        settled_does w b known.holds.legal i x known.small verdict w₁ b left.records left.entries
        (n - left.entries + 1) left.bytes rows placed held_left
        (left_bytes w b known.holds.legal i clock (length body) 1024 known.plans known.removed) (omega (arith, counted))
        refl known.long known.holds written refl
        (left_behind w b known.holds.legal i clock (length body) 1024 known.plans known.removed)
