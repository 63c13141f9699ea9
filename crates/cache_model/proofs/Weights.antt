-- Conservation: whatever weight a body has, removals, an offer and a resize neither lose nor invent any.
-- Assumes nothing.
use mathlib.Core.Path.{◌≡◌, refl, ap}
use mathlib.Core.List.{List, [], ◌∷◌, ◌++◌}
use mathlib.Core.Bool.{Bool, true, false, not, ◌&&◌, cond}
use Prim.Native.Nat.{ℕ, zero, suc, ◌+◌, ◌-◌}
use native.Mathlib.Omega.{arith}
use lib.Dec.{eqb, leb, ltb}
use lib.ListN.{length, take, drop}
use Rattle.config.specs.declared.PendingFlowsConfig.{PendingFlowsConfig}
use Rattle.config.proofs.Tests.{by_case}
use Rattle.cache_model.specs.Bodies.{Body, Template, size, sum_bodies, sum_templates, keep, all_bodies, bodies_of}
use Rattle.cache_model.specs.Bodies.{without, unless_empty}
use Rattle.cache_model.specs.Removal.{Split, untouched, evicted, evictions, kept_of, failed_of, pruned, newest_of}
use Rattle.cache_model.specs.Removal.{oldest_of, capped}
use Rattle.cache_model.specs.Offer.{Offered, appended, accepted_bodies, step2, step3, step4, step5, add_newest}
use Rattle.cache_model.specs.Offer.{step4or5, after_step3, after_step2, steps2to5}
use Rattle.cache_model.specs.Calls.{shrunk}

pub count_bodies : (bs : List Body) → sum_bodies (λ _. 1) bs ≡ length bs
count_bodies [] = refl
count_bodies (b ∷ bs) = omega (arith, count_bodies bs)

pub keep_true : (bs : List Body) → keep (λ _. true) bs ≡ bs
keep_true [] = refl
keep_true (b ∷ bs) = ap (λ (xs : List Body). b ∷ xs) (keep_true bs)

module _ (w : Body → ℕ) where
  pub sum_append : (xs ys : List Body) → sum_bodies w (xs ++ ys) ≡ sum_bodies w xs + sum_bodies w ys
  sum_append [] ys = omega arith
  sum_append (x ∷ xs) ys = omega (arith, sum_append xs ys)

  pub sum_templates_lem : (xs ys : List Template) → sum_templates w (xs ++ ys) ≡ sum_templates w xs + sum_templates w ys
  sum_templates_lem [] ys = omega arith
  sum_templates_lem (x ∷ xs) ys = omega (arith, sum_templates_lem xs ys)

  pub sum_all : (ts : List Template) → sum_bodies w (all_bodies ts) ≡ sum_templates w ts
  sum_all [] = refl
  sum_all (t ∷ ts) = omega (arith, sum_all ts, sum_append t.bodies (all_bodies ts))

  -- the bodies that pass a test, and the others
  pub sum_keep : (p : Body → Bool) (bs : List Body)
      → sum_bodies w bs ≡ sum_bodies w (keep p bs) + sum_bodies w (keep (λ b. not (p b)) bs)
  sum_keep p [] = refl
  sum_keep p (b ∷ bs) = by_test (p b) (keep p bs) (keep (λ x. not (p x)) bs) (sum_keep p bs)
    where
      by_test : (q : Bool) (pass fail : List Body) → sum_bodies w bs ≡ sum_bodies w pass + sum_bodies w fail
          → w b + sum_bodies w bs
          ≡ sum_bodies w (cond q (b ∷ pass) pass) + sum_bodies w (cond (not q) (b ∷ fail) fail)
      by_test true pass fail e = omega arith
      by_test false pass fail e = omega arith

  -- the bodies of an id, and the templates of the other ids
  pub sum_without : (i : ℕ) (ts : List Template)
      → sum_templates w ts ≡ sum_templates w (without i ts) + sum_bodies w (bodies_of i ts)
  sum_without i [] = refl
  sum_without i (t ∷ ts) = by_test (eqb i t.id) (sum_without i ts)
    where
      by_test : (q : Bool) → sum_templates w ts ≡ sum_templates w (without i ts) + sum_bodies w (bodies_of i ts)
          → sum_bodies w t.bodies + sum_templates w ts
          ≡ sum_templates w (cond q ts (t ∷ without i ts)) + sum_bodies w (cond q t.bodies (bodies_of i ts))
      by_test true e = omega arith
      by_test false e = omega arith

  pub sum_unless_empty : (i : ℕ) (bs : List Body) (ts : List Template)
      → sum_templates w (unless_empty i bs ts) ≡ sum_bodies w bs + sum_templates w ts
  sum_unless_empty i [] ts = omega arith
  sum_unless_empty i (b ∷ bs) ts = refl

  -- the first n bodies, and the others
  pub sum_drop : (n : ℕ) (bs : List Body) → sum_bodies w bs ≡ sum_bodies w (drop n bs) + sum_bodies w (take n bs)
  sum_drop zero bs = omega arith
  sum_drop (suc n) [] = refl
  sum_drop (suc n) (b ∷ bs) = omega (arith, sum_drop n bs)

  sum_evicted : (n : ℕ) (ts : List Template)
      → sum_templates w ts ≡ sum_templates w (drop n ts) + sum_bodies w (all_bodies (take n ts))
  sum_evicted zero ts = omega arith
  sum_evicted (suc n) [] = refl
  sum_evicted (suc n) (t ∷ ts) = omega (arith, sum_evicted n ts, sum_append t.bodies (all_bodies (take n ts)))

  sum_pruned : (p : ℕ → Body → Bool) (ts : List Template)
      → sum_templates w ts ≡ sum_templates w (kept_of p ts) + sum_bodies w (failed_of p ts)
  sum_pruned p [] = refl
  sum_pruned p (t ∷ ts) =
      let kept = keep (p t.id) t.bodies in
      let failed = keep (λ b. not (p t.id b)) t.bodies in
      omega (
        arith,
        sum_pruned p ts,
        sum_keep (p t.id) t.bodies,
        sum_unless_empty t.id kept (kept_of p ts),
        sum_append failed (failed_of p ts),
      )

  sum_capped : (n : ℕ) (ts : List Template)
      → sum_templates w ts ≡ sum_templates w (newest_of n ts) + sum_bodies w (oldest_of n ts)
  sum_capped n [] = refl
  sum_capped n (t ∷ ts) =
      let k = length t.bodies - n in
      omega (arith, sum_capped n ts, sum_drop k t.bodies, sum_append (take k t.bodies) (oldest_of n ts))

  -- what stays held and what was removed weigh together what they did
  abbrev pub sum_split : Split → ℕ
  sum_split s = sum_templates w s.held + sum_bodies w s.removed

  pub evicted_conserves : (n : ℕ) (s : Split) → sum_split (evicted n s) ≡ sum_split s
  unfolding evicted
  evicted_conserves n s =
      omega (arith, sum_evicted n s.held, sum_append s.removed (all_bodies (take n s.held)))

  pub pruned_conserves : (p : ℕ → Body → Bool) (s : Split) → sum_split (pruned p s) ≡ sum_split s
  unfolding pruned
  pruned_conserves p s = omega (arith, sum_pruned p s.held, sum_append s.removed (failed_of p s.held))

  pub capped_conserves : (n : ℕ) (s : Split) → sum_split (capped n s) ≡ sum_split s
  unfolding capped
  capped_conserves n s = omega (arith, sum_capped n s.held, sum_append s.removed (oldest_of n s.held))

  -- an offer adds the weight of its body, where it is accepted
  abbrev Conserves : Body → Split → Offered → Type 0
  Conserves b s o = sum_split o.left ≡ sum_split s + sum_bodies w (accepted_bodies o.verdict b)

  module _ (l : PendingFlowsConfig) (old : Body → Bool) (i : ℕ) (b : Body) where
    appended_conserves : (s : Split) → sum_split (appended i b s) ≡ sum_split s + sum_bodies w (b ∷ [])
    unfolding appended
    appended_conserves s =
        let bs = bodies_of i s.held in
        omega (
          arith,
          sum_without i s.held,
          sum_templates_lem (without i s.held) (record { id = i; bodies = bs ++ (b ∷ []) } ∷ []),
          sum_append bs (b ∷ []),
        )

    newest_conserves : (s : Split) → Conserves b s (add_newest l old i b s)
    unfolding add_newest
    newest_conserves s =
        by_case (Conserves b s) (leb l.max_pending_flows (length s.held))
        (λ _. omega (arith, appended_conserves (evicted 1 s), evicted_conserves 1 s))
        (λ _. appended_conserves s)

    step5_conserves : (s : Split) → Conserves b s (step5 l old i b s)
    unfolding step5
    step5_conserves s =
        let p : ℕ → Body → Bool = λ j x. not (old x) in
        by_case (Conserves b s) (leb l.max_pending_flows (length s.held))
        (λ _. omega (arith, newest_conserves (pruned p s), pruned_conserves p s))
        (λ _. appended_conserves s)

    step4_conserves : (s : Split) → Conserves b s (step4 l old i b s)
    unfolding step4
    step4_conserves s =
        by_case (Conserves b s) (leb l.max_entries_per_template (length (bodies_of i s.held)))
        (λ _. omega arith)
        (λ _. appended_conserves s)

    step4or5_conserves : (bs : List Body) (s : Split) → Conserves b s (step4or5 l old i b bs s)
    unfolding step4or5
    step4or5_conserves [] s = step5_conserves s
    step4or5_conserves (x ∷ xs) s = step4_conserves s

    after_step2_conserves : (s : Split) → Conserves b s (after_step2 l old i b s)
    unfolding after_step2 after_step3 step3
    after_step2_conserves s =
        let p : ℕ → Body → Bool = λ j x. not (eqb i j && old x) in
        by_case (Conserves b s) (ltb l.max_total_bytes (sum_templates size s.held + size b))
        (λ _. omega arith)
        (λ _. omega (
          arith,
          step4or5_conserves (bodies_of i (pruned p s).held) (pruned p s),
          pruned_conserves p s,
        ))

    pub offer_conserves : (ts : List Template) → Conserves b (untouched ts) (steps2to5 l old i b ts)
    unfolding steps2to5 step2
    offer_conserves ts =
        let n = evictions l.max_total_bytes (size b) ts in
        omega (arith, after_step2_conserves (evicted n (untouched ts)), evicted_conserves n (untouched ts))

  pub shrunk_conserves : (l : PendingFlowsConfig) (ts : List Template) → sum_split (shrunk l ts) ≡ sum_templates w ts
  unfolding shrunk
  shrunk_conserves l ts =
      let small : ℕ → Body → Bool = λ j x. leb (size x) l.max_entry_size_bytes in
      let few = evicted (length ts - l.max_pending_flows) (untouched ts) in
      let newest = capped l.max_entries_per_template (pruned small few) in
      omega (
        arith,
        evicted_conserves (length ts - l.max_pending_flows) (untouched ts),
        pruned_conserves small few,
        capped_conserves l.max_entries_per_template (pruned small few),
        evicted_conserves (evictions l.max_total_bytes 0 newest.held) newest,
      )
