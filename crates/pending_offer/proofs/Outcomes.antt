-- What an offer comes to by the definition, told by its plan. Assumes nothing.
use mathlib.Core.Path.{◌≡◌, refl, ap, ◌∙◌}
use mathlib.Core.Bool.{Bool, true, false, ◌&&◌, cond}
use mathlib.Core.List.{List, [], ◌∷◌, ◌++◌}
use Prim.Native.Nat.{ℕ, ◌≤◌}
use native.Mathlib.Omega.{arith}
use lib.Dec.{eqb}
use lib.ListN.{length, take}
use Rattle.config.specs.declared.PendingFlowsConfig.{PendingFlowsConfig}
use Rattle.table.specs.Layout.{limits_of}
use Rattle.table.specs.Table.{table_of}
use Rattle.table.specs.WellFormed.{well_formed}
use Rattle.table.proofs.Facts.{words_say}
use Rattle.cache_model.specs.Bodies.{Body, Template, size, expired, bodies_of}
use Rattle.cache_model.specs.Offer.{Verdict, accepted, refused}
use Rattle.cache_model.proofs.Limits.{Within}
use Rattle.cache_model.proofs.Calls.{limits_alone, held_within}
use Rattle.cache_model.proofs.Plans as Plans
use Rattle.cache_model.proofs.Plans.{Plan, over, stay_live, held_after, thin, thin_by, offer_planned, others_planned}
use Rattle.cache_model.proofs.Plans.{bodies_planned}
use Rattle.cache_model.proofs.Thinning.{thinned, has_id, first_id, none_either_way}
use Rattle.pending_flows.specs.View.{cache_of}
use Rattle.table_view.proofs.Stored.{legal_limited}
use Rattle.offer_plan.specs.declared.plan.OfferPlan.{OfferPlan}
use Rattle.offer_plan.specs.Plan.{Plans}
use Rattle.pending_offer.proofs.Settled.{outcome}

none_both : (p q : Bool) → ◌≡◌ {A = List Body} (cond p [] (cond q [] [])) []
none_both true q = refl
none_both false q = none_either_way q

thin_nothing : (l : PendingFlowsConfig) (old : Body → Bool) (i : ℕ) (x : Body) (ts : List Template) (p : Plan) (j : ℕ) →
    thin_by l old i x ts p j [] ≡ []
unfolding thin_by
thin_nothing l old i x ts p j =
    none_both (has_id j (take (over l old i x ts) ts)) (p.first && eqb j (first_id (stay_live l old i x ts)))

module _ (w b : List ℕ) (ok : well_formed w (length b) ≡ true) (i : ℕ) (x : Body)
    (small : size x ≤ (limits_of w).max_entry_size_bytes) where
  abbrev ts : List Template
  ts = (cache_of (table_of w) b).held

  -- what the plan leaves of a template's bodies, and the same without the id's own
  abbrev pub leaves : ℕ → List Body → List Body
  leaves = thin (limits_of w) (expired (limits_of w).ttl x.clock) i x ts

  abbrev pub others : ℕ → List Body → List Body
  others j bs = cond (eqb i j) [] (leaves j bs)

  pub leaves_nothing : leaves i [] ≡ []
  leaves_nothing = thin_nothing (limits_of w) (expired (limits_of w).ttl x.clock) i x ts _ i

  within : Within (limits_of w) limits_alone [] ts
  within = held_within (cache_of (table_of w) b) (legal_limited w b (words_say w (length b) ok))

  abbrev Planned : Verdict → Type 0
  Planned v =
      ((outcome w b ok i x small).verdict ≡ v)
      × ((outcome w b ok i x small).left.held ≡ held_after i x v (thinned leaves ts))

  planned : Planned (Plans.plan (limits_of w) (expired (limits_of w).ttl x.clock) i x ts).verdict
  planned =
      offer_planned (limits_of w) (expired (limits_of w).ttl x.clock) i x ts within.differ within.filled
      (omega (arith, (words_say w (length b) ok).limits_legal_lem.size_within))

  module _ {plan : OfferPlan} (plans : Plans w b i (size x) x.clock plan) where
    -- the plan's verdict, and what is left held by it
    verdict_is : (outcome w b ok i x small).verdict ≡ cond plan.full (refused 20) accepted
    verdict_is = planned.0 ∙ plans.verdict x refl

    held_is : (outcome w b ok i x small).left.held
        ≡ held_after i x (cond plan.full (refused 20) accepted) (thinned leaves ts)
    held_is = planned.1 ∙ ap (λ (v : Verdict). held_after i x v (thinned leaves ts)) (plans.verdict x refl)

    module _ (full : plan.full ≡ true) where
      pub refused_verdict : (outcome w b ok i x small).verdict ≡ refused 20
      refused_verdict = verdict_is ∙ rw full

      pub refused_held : (outcome w b ok i x small).left.held ≡ thinned leaves ts
      refused_held = held_is ∙ rw full

    -- the other ids' templates, and the id's own with the body behind
    module _ (room : plan.full ≡ false) where
      pub accepted_verdict : (outcome w b ok i x small).verdict ≡ accepted
      accepted_verdict = verdict_is ∙ rw room

      pub accepted_held : (outcome w b ok i x small).left.held
          ≡ thinned others ts ++ (record { id = i; bodies = leaves i (bodies_of i ts) ++ (x ∷ []) } ∷ [])
      accepted_held =
          let l = limits_of w in
          let old = expired l.ttl x.clock in
          held_is
          ∙ rw (
            room,
            others_planned l old i x ts within.differ,
            bodies_planned l old i x ts within.differ,
          )
