-- The offer's steps 2 to 5 as one decision, from counts alone, and one thinning of what was held before.
-- Assumes nothing.
use mathlib.Core.Path.{◌≡◌, refl, sym, ap, ◌∙◌}
use mathlib.Core.List.{List, [], ◌∷◌, ◌++◌}
use mathlib.Core.Bool.{Bool, true, false, not, ◌&&◌, ◌||◌, cond}
use Prim.Native.Nat.{ℕ, ◌+◌, ◌≤◌, ◌<◌}
use native.Mathlib.Omega.{arith}
use lib.Dec.{eqb, leb, ltb}
use lib.ListN.{length, take, drop}
use borrow.Author.Tests.{ltb-true, lt-ltb, le-ltb}
use Rattle.config.specs.declared.PendingFlowsConfig.{PendingFlowsConfig}
use Rattle.config.proofs.Tests.{by_case}
use Rattle.cache_model.specs.Bodies.{Body, Template, size, byte_total, keep, bodies_of, without, unless_empty}
use Rattle.cache_model.specs.Removal.{Split, untouched, evicted, evictions, kept_of, pruned}
use Rattle.cache_model.specs.Offer.{Verdict, accepted, refused, Offered, appended, accept, refuse, step2, step3}
use Rattle.cache_model.specs.Offer.{step4, add_newest, step5, step4or5, after_step3, after_step2, steps2to5}
use Rattle.cache_model.proofs.Lists.{all_sub, part_map, sub_drop}
use Rattle.cache_model.proofs.Parts.{fewer_equal, Differ, differ_part, Filled, absent_behind, absent_has_none}
use Rattle.cache_model.proofs.Parts.{unless_empty_filled}
use Rattle.cache_model.proofs.Limits.{evictions_make_room}
use Rattle.cache_model.proofs.Pruning.{stays, live, none_pruned, of_pruned}
use Rattle.cache_model.proofs.Thinning.{thinned, has_id, first_id, thinned_alike, thinned_twice, bodies_thinned}
use Rattle.cache_model.proofs.Thinning.{kept_thinned, thinned_evicted, first_thinned, without_of_thinned}
use Rattle.cache_model.proofs.Thinning.{none_either_way}
use Rattle.cache_model.proofs.Weights.{keep_true}

-- ---- what pruning leaves

module _ (i : ℕ) (old : Body → Bool) where
  -- where the id has no live bodies, step 3 leaves the other ids' templates
  pruned_away : (ts : List Template) → Differ ts → Filled ts → keep (live i old) (bodies_of i ts) ≡ []
      → kept_of (stays i old) ts ≡ without i ts
  pruned_away [] d f e = refl
  pruned_away (t ∷ ts) d f e = by_test (eqb i t.id) refl (pruned_away ts d.1 f.1) e
    where
      kept : List Template
      kept = kept_of (stays i old) ts

      by_test : (q : Bool) → eqb i t.id ≡ q → (keep (live i old) (bodies_of i ts) ≡ [] → kept ≡ without i ts)
          → keep (live i old) (cond q t.bodies (bodies_of i ts)) ≡ []
          → unless_empty t.id (keep (λ x. not (q && old x)) t.bodies) kept ≡ cond q ts (t ∷ without i ts)
      by_test true same r e =
          rw e (none_pruned i old ts d.1 f.1 (rw (absent_has_none i ts (absent_behind i t ts same d)) tt)).0
      by_test false other r e =
          rw (keep_true t.bodies, r e) (unless_empty_filled t.id t.bodies (without i ts) f.0)

  keep_live : (j : ℕ) (bs : List Body) → keep (live i old) (keep (stays i old j) bs) ≡ keep (live i old) bs
  keep_live j [] = refl
  keep_live j (b ∷ bs) = by_test (eqb i j) (old b) refl (keep_live j bs)
    where
      kept : List Body
      kept = keep (stays i old j) bs

      by_test : (p q : Bool) → old b ≡ q → keep (live i old) kept ≡ keep (live i old) bs
          → keep (live i old) (cond (not (p && q)) (b ∷ kept) kept)
          ≡ cond (not q) (b ∷ keep (live i old) bs) (keep (live i old) bs)
      by_test true true e r = r
      by_test false true e r = rw e r
      by_test true false e r = rw (e, r)
      by_test false false e r = rw (e, r)

-- ---- the decision

pub record Plan : Type 0 where
  pub verdict : Verdict
  pub all : Bool  -- all expired bodies go, not only the id's
  pub first : Bool  -- and the least recent of the templates with live bodies

-- from the id's live bodies, the templates of other ids, and the templates with live bodies, after step 2
unfoldable pub plan_of : PendingFlowsConfig → (here others alive : ℕ) → Plan
plan_of l here others alive =
    let full = not (ltb 0 here) && leb l.max_pending_flows others in
    record {
      verdict = cond (ltb 0 here) (cond (leb l.max_entries_per_template here) (refused 20) accepted) accepted;
      all = full;
      first = full && leb l.max_pending_flows alive;
    }

-- an accepted body at the back of its template, and the template newest
abbrev pub held_after : ℕ → Body → Verdict → List Template → List Template
held_after i b accepted ts = without i ts ++ (record { id = i; bodies = bodies_of i ts ++ (b ∷ []) } ∷ [])
held_after i b (refused n) ts = ts

module _ (l : PendingFlowsConfig) (old : Body → Bool) (i : ℕ) (b : Body) (ts : List Template) where
  abbrev lives : ℕ → Body → Bool
  lives j x = not (old x)

  -- how many templates step 2 evicts, and those that stay
  abbrev pub over : ℕ
  over = evictions l.max_total_bytes (size b) ts

  abbrev pub stay : List Template
  stay = drop over ts

  -- of those, the templates with live bodies
  abbrev pub stay_live : List Template
  stay_live = kept_of lives stay

  abbrev pub here : ℕ
  here = length (keep (λ x. not (old x)) (bodies_of i stay))

  abbrev pub others : ℕ
  others = length (without i stay)

  abbrev pub alive : ℕ
  alive = length stay_live

  abbrev pub plan : Plan
  plan = plan_of l here others alive

  -- what stays of a template's bodies, by its id
  unfoldable pub thin_by : Plan → ℕ → List Body → List Body
  thin_by p j bs =
      cond (has_id j (take over ts)) []
      (cond (p.first && eqb j (first_id stay_live)) []
      (keep (λ x. not ((p.all || eqb i j) && old x)) bs))

  abbrev pub thin : ℕ → List Body → List Body
  thin = thin_by plan

  -- an offer that goes as planned
  abbrev Follows : Plan → Offered → Type 0
  Follows p o =
      (o.verdict ≡ p.verdict) × (o.left.held ≡ held_after i b p.verdict (thinned (thin_by p) ts))

  -- the id is held; or it is not
  abbrev plan_held : (full : Bool) → Plan
  plan_held full = record { verdict = cond full (refused 20) accepted; all = false; first = false }

  abbrev plan_new : (all first : Bool) → Plan
  plan_new all first = record { verdict = accepted; all = all; first = first }

  module _ (differ : Differ ts) where
    stay_differ : Differ stay
    stay_differ = differ_part (part_map fewer_equal (sub_drop over ts)) differ

    -- what step 3 leaves, what step 5's pruning leaves, and what its eviction leaves
    step3_thinned : (v : Verdict) → kept_of (stays i old) stay
        ≡ thinned (thin_by (record { verdict = v; all = false; first = false })) ts
    unfolding thin_by
    step3_thinned v =
        kept_thinned (stays i old) stay ∙ thinned_evicted (λ j bs. keep (stays i old j) bs) over ts differ

    live_thinned : stay_live ≡ thinned (thin_by (plan_new true false)) ts
    unfolding thin_by
    live_thinned = kept_thinned lives stay ∙ thinned_evicted (λ j bs. keep (lives j) bs) over ts differ

    later_thinned : drop 1 stay_live ≡ thinned (thin_by (plan_new true true)) ts
    unfolding thin_by
    later_thinned =
        let later : ℕ → ℕ → List Body → List Body = λ k j bs. cond (eqb j k) [] (keep (lives j) bs) in
        let kept = kept_thinned lives stay in
        ap (drop 1) kept
        ∙ first_thinned (λ j bs. keep (lives j) bs) stay stay_differ
        ∙ ap (λ (us : List Template). thinned (later (first_id us)) stay) (sym kept)
        ∙ thinned_evicted (later (first_id stay_live)) over ts differ

    -- step 3 removes no live body
    live_after_step3 : kept_of lives (kept_of (stays i old) stay) ≡ stay_live
    live_after_step3 =
        let left : ℕ → List Body → List Body = λ j bs. keep (stays i old j) bs in
        let living : ℕ → List Body → List Body = λ j bs. keep (lives j) bs in
        kept_thinned lives (kept_of (stays i old) stay)
        ∙ ap (thinned living) (kept_thinned (stays i old) stay)
        ∙ thinned_twice left living (λ j. refl) stay
        ∙ thinned_alike (λ j bs. living j (left j bs)) living (keep_live i old) stay
        ∙ sym (kept_thinned lives stay)

    of_step3 : (s : Split) → s.held ≡ kept_of (stays i old) stay
        → bodies_of i s.held ≡ keep (live i old) (bodies_of i stay)
    of_step3 s e = ap (bodies_of i) e ∙ of_pruned i old stay stay_differ

    accept_follows : (all first : Bool) (s : Split) → s.held ≡ thinned (thin_by (plan_new all first)) ts
        → Follows (plan_new all first) (accept i b s)
    unfolding appended
    accept_follows all first s e = (refl, ap (held_after i b accepted) e)

    step4_follows : (s : Split) → s.held ≡ kept_of (stays i old) stay
        → Follows (plan_held (leb l.max_entries_per_template here)) (step4 l old i b s)
    unfolding step4
    step4_follows s e = rw (of_step3 s e) (by_test (leb l.max_entries_per_template here))
      where
        by_test : (q : Bool) → Follows (plan_held q) (cond q (refuse 20 s) (accept i b s))
        by_test true = (refl, e ∙ step3_thinned (refused 20))
        by_test false = accept_follows false false s (e ∙ step3_thinned accepted)

    newest_follows : (s : Split) → s.held ≡ stay_live
        → Follows (plan_new true (leb l.max_pending_flows alive)) (add_newest l old i b s)
    unfolding add_newest evicted
    newest_follows s e =
        let count : length s.held ≡ alive = ap length e in
        rw count (by_test (leb l.max_pending_flows alive))
      where
        by_test : (q : Bool) → Follows (plan_new true q) (cond q (accept i b (evicted 1 s)) (accept i b s))
        by_test true = accept_follows true true (evicted 1 s) (ap (drop 1) e ∙ later_thinned)
        by_test false = accept_follows true false s (e ∙ live_thinned)

    module _ (filled : Filled ts) where
      stay_filled : Filled stay
      stay_filled = all_sub (λ t. 0 < length t.bodies) (sub_drop over ts) filled

      step5_follows : (s : Split) → s.held ≡ kept_of (stays i old) stay → bodies_of i s.held ≡ []
          → let full = leb l.max_pending_flows others in
          Follows (plan_new full (full && leb l.max_pending_flows alive)) (step5 l old i b s)
      unfolding step5 pruned
      step5_follows s e absent =
          let leaving = pruned_away i old stay stay_differ stay_filled (sym (of_step3 s e) ∙ absent) in
          let count : length s.held ≡ others = ap length (e ∙ leaving) in
          rw count (by_test (leb l.max_pending_flows others))
        where
          by_test : (q : Bool) → Follows (plan_new q (q && leb l.max_pending_flows alive))
              (cond q (add_newest l old i b (pruned lives s)) (accept i b s))
          by_test true = newest_follows (pruned lives s) (ap (kept_of lives) e ∙ live_after_step3)
          by_test false = accept_follows false false s (e ∙ step3_thinned accepted)

      step4or5_follows : (bs : List Body) (s : Split) → s.held ≡ kept_of (stays i old) stay
          → bodies_of i s.held ≡ bs → Follows plan (step4or5 l old i b bs s)
      unfolding step4or5 plan_of
      step4or5_follows [] s e f =
          let count : here ≡ 0 = ap length (sym (of_step3 s e) ∙ f) in
          rw (le-ltb 0 here (omega arith)) (step5_follows s e f)
      step4or5_follows (x ∷ xs) s e f =
          let some : 0 < here = omega (arith, ap length (sym (of_step3 s e) ∙ f)) in
          rw (lt-ltb 0 here some) (step4_follows s e)

      -- of a body that fits in an empty cache
      pub offer_planned : size b ≤ l.max_total_bytes
          → let o = steps2to5 l old i b ts in
          (o.verdict ≡ plan.verdict) × (o.left.held ≡ held_after i b plan.verdict (thinned thin ts))
      unfolding steps2to5 step2 after_step2 after_step3 step3 evicted pruned
      offer_planned small =
          let most = l.max_total_bytes in
          let total = byte_total stay + size b in
          let room = evictions_make_room most (size b) ts small in
          let left = pruned (stays i old) (evicted over (untouched ts)) in
          by_case (Follows plan) (ltb most total)
          (λ e. absurd (omega (arith, ltb-true most total e)))
          (λ _. step4or5_follows (bodies_of i left.held) left refl refl)

    -- the two parts of what an accepted offer leaves
    pub others_planned : without i (thinned thin ts) ≡ thinned (λ j bs. cond (eqb i j) [] (thin j bs)) ts
    others_planned = without_of_thinned i thin ts differ

    pub bodies_planned : bodies_of i (thinned thin ts) ≡ thin i (bodies_of i ts)
    unfolding thin_by
    bodies_planned =
        bodies_thinned thin i ts differ
        (rw (none_either_way (plan.first && eqb i (first_id stay_live))) (none_either_way (has_id i (take over ts))))
