-- Which offers are accepted, in full: 21 never comes, 20 follows no pruning, a yes of `would_accept` binds the offer.
-- Assumes nothing.
use mathlib.Core.Path.{◌≡◌, refl, sym, ap, ◌∙◌}
use mathlib.Core.Logic.{◌≢◌}
use mathlib.Core.List.{List, [], ◌∷◌, append-nil}
use mathlib.Core.Bool.{Bool, true, false, not, ◌&&◌, cond}
use Prim.Native.Nat.{ℕ, suc, ◌+◌, ◌≤◌, ◌<◌}
use native.Mathlib.Omega.{arith}
use lib.Dec.{leb, ltb}
use lib.ListN.{length, drop}
use borrow.Author.Tests.{leb-true, ltb-true, ltb-false, lt-leb, le-ltb}
use Rattle.config.specs.declared.PendingFlowsConfig.{PendingFlowsConfig}
use Rattle.config.proofs.Tests.{by_case, cond_of, and_left, and_right}
use Rattle.cache_model.specs.Bodies.{Body, Template, size, byte_total, keep, bodies_of, expired}
use Rattle.cache_model.specs.Removal.{Split, untouched, evicted, evictions, pruned}
use Rattle.cache_model.specs.Cache.{Cache, Answer, done, number}
use Rattle.cache_model.specs.Offer.{accepted, refused, Offered, accept, refuse, step2, step3, step4, add_newest}
use Rattle.cache_model.specs.Offer.{step5, step4or5, after_step3, after_step2, steps2to5, verdict_answer}
use Rattle.cache_model.specs.Offer.{refused_size, settled, offered}
use Rattle.cache_model.specs.Queries.{would_accept}
use Rattle.cache_model.proofs.Lists.{part_map, sub_drop}
use Rattle.cache_model.proofs.Parts.{fewer_equal, Differ, differ_part, bodies_of_have}
use Rattle.cache_model.proofs.Limits.{LegalLimits, Within, evicted_within, evictions_make_room}
use Rattle.cache_model.proofs.Calls.{limits_alone, Limited, held_within}
use Rattle.cache_model.proofs.Pruning.{stays, live, all_kept, none_pruned, of_evicted, of_pruned}

module _ (l : PendingFlowsConfig) (old : Body → Bool) (i : ℕ) (b : Body) where
  abbrev cap : ℕ
  cap = l.max_entries_per_template

  -- how many unexpired bodies the id has once the body fits
  abbrev pub unexpired : List Template → ℕ
  unexpired ts = length (keep (live i old) (bodies_of i (drop (evictions l.max_total_bytes (size b) ts) ts)))

  new_accepted : (s : Split) → (step5 l old i b s).verdict ≡ accepted
  unfolding step5 add_newest
  new_accepted s =
      let Accepted : Offered → Type 0 = λ o. o.verdict ≡ accepted in
      let full = leb l.max_pending_flows (length s.held) in
      let stillFull = leb l.max_pending_flows (length (pruned (λ j x. not (old x)) s).held) in
      by_case Accepted full (λ _. by_case Accepted stillFull (λ _. refl) (λ _. refl)) (λ _. refl)

  -- 20 exactly where the id's bodies reach the cap
  step4or5_verdict : (bs : List Body) (s : Split) → bodies_of i s.held ≡ bs → 0 < cap
      → (step4or5 l old i b bs s).verdict ≡ cond (leb cap (length bs)) (refused 20) accepted
  unfolding step4or5 step4
  step4or5_verdict [] s e some = new_accepted s ∙ rw (lt-leb cap 0 some)
  step4or5_verdict (x ∷ xs) s e some =
      rw e (cond_of (λ (o : Offered). o.verdict) (leb cap (suc (length xs))) (refuse 20 s) (accept i b s))

  -- a refusal there leaves what it found
  step4or5_refused : (bs : List Body) (s : Split) (n : ℕ) → (step4or5 l old i b bs s).verdict ≡ refused n
      → (step4or5 l old i b bs s).left ≡ s
  unfolding step4or5 step4
  step4or5_refused [] s n e = let no : ◌≡◌ {A = ℕ} 0 1 = cc (new_accepted s) in absurd (omega arith)
  step4or5_refused (x ∷ xs) s n e =
      by_case (λ (o : Offered). o.verdict ≡ refused n → o.left ≡ s) (leb cap (length (bodies_of i s.held)))
      (λ _ _. refl)
      (λ _ f. let no : ◌≡◌ {A = ℕ} 0 1 = cc in absurd (omega arith))
      e

  module _ (legal : LegalLimits l) (small : size b ≤ l.max_entry_size_bytes) where
    -- 20 exactly if the template survives the byte evictions and then holds its cap of unexpired bodies; never 21
    pub verdict_in_full : (ts : List Template) → Differ ts
        → (steps2to5 l old i b ts).verdict ≡ cond (leb cap (unexpired ts)) (refused 20) accepted
    unfolding steps2to5 step2 after_step2 after_step3 step3 pruned evicted
    verdict_in_full ts d =
        let most = l.max_total_bytes in
        let n = evictions most (size b) ts in
        let s = evicted n (untouched ts) in
        let total = byte_total (drop n ts) + size b in
        let left = pruned (stays i old) s in
        let less = part_map fewer_equal (sub_drop n ts) in
        let full = leb cap (unexpired ts) in
        let room = evictions_make_room most (size b) ts (omega (arith, legal.entry)) in
        by_case (λ (o : Offered). o.verdict ≡ cond full (refused 20) accepted) (ltb most total)
        (λ e. absurd (omega (arith, ltb-true most total e)))
        (λ _. step4or5_verdict (bodies_of i left.held) left refl legal.entries
        ∙ rw (of_pruned i old (drop n ts) (differ_part less d)))

    -- a full template had no expired body to prune
    after_step3_refused : (s : Split) → Within l limits_alone [] s.held → (n : ℕ)
        → (after_step3 l old i b (step3 l old i b s)).verdict ≡ refused n
        → (after_step3 l old i b (step3 l old i b s)).left ≡ s
    unfolding after_step3 step3 pruned
    after_step3_refused s h n e =
        let left = pruned (stays i old) s in
        let bs = bodies_of i s.held in
        let after = bodies_of i left.held in
        let verdict = step4or5_verdict after left refl legal.entries in
        let full = reached (length after) (leb cap (length after)) refl (sym verdict ∙ e) in
        let few = bodies_of_have (λ xs. length xs ≤ cap) (omega arith) i s.held h.caps in
        let unexpired = ap length (of_pruned i old s.held h.differ) in
        let all = all_kept (live i old) bs (omega arith) in
        let same = none_pruned i old s.held h.differ h.filled all in
        step4or5_refused after left n e ∙ rw (same.0, same.1, append-nil)
      where
        reached : (m : ℕ) (q : Bool) → leb cap m ≡ q → cond q (refused 20) accepted ≡ refused n → cap ≤ m
        reached m true f e = leb-true cap m f
        reached m false f e = let no : ◌≡◌ {A = ℕ} 0 1 = cc in absurd (omega arith)

    -- A refusal follows no pruning: it leaves what step 2 left. A final fact, which no proof cites.
    pub refusal_prunes_nothing : (ts : List Template) → Within l limits_alone [] ts → (n : ℕ)
        → (steps2to5 l old i b ts).verdict ≡ refused n → (steps2to5 l old i b ts).left ≡ step2 l old i b ts
    unfolding steps2to5 step2 after_step2
    refusal_prunes_nothing ts h n e =
        let most = l.max_total_bytes in
        let k = evictions most (size b) ts in
        let s = evicted k (untouched ts) in
        by_case (λ (o : Offered). o.verdict ≡ refused n → o.left ≡ s) (ltb most (byte_total s.held + size b))
        (λ _ _. refl)
        (λ _ f. after_step3_refused s (evicted_within k (untouched ts) h) n f)
        e

-- ---- the answers

module _ (c : Cache) (h : Limited c) (i : ℕ) (b : Body) where
  abbrev too_large : Bool
  too_large = ltb c.limits.max_entry_size_bytes (size b)

  abbrev full : Bool
  full =
      let l = c.limits in
      leb l.max_entries_per_template (unexpired l (expired l.ttl b.clock) i b c.held)

  pub answer_in_full : (offered i b c).answer ≡ cond too_large (number 6) (cond full (number 20) done)
  unfolding offered settled refused_size
  answer_in_full = by_test too_large refl
    where
      l : PendingFlowsConfig
      l = c.limits

      o : Offered
      o = steps2to5 l (expired l.ttl b.clock) i b c.held

      by_test : (q : Bool) → too_large ≡ q
          → (cond q (refused_size c) (settled c b o)).answer ≡ cond q (number 6) (cond full (number 20) done)
      by_test true e = refl
      by_test false e =
          let held = held_within c h in
          let small = ltb-false l.max_entry_size_bytes (size b) e in
          ap verdict_answer
          (verdict_in_full l (expired l.ttl b.clock) i b h.legal small c.held held.differ)
          ∙ cond_of verdict_answer full (refused 20) accepted

  -- No offer to a cache within its limits is answered with 21. A final fact, which no proof cites.
  pub never_21 : (offered i b c).answer ≢ number 21
  never_21 e =
      let Never : Answer → Type 0 = λ a. a ≡ number 21 → ⊥ in
      by_case Never too_large
      (λ _ f. other 6 21 f (omega arith))
      (λ _. by_case Never full
      (λ _ f. other 20 21 f (omega arith))
      (λ _ f. let no : ◌≡◌ {A = ℕ} 0 1 = cc in omega arith))
      (sym answer_in_full ∙ e)
    where
      other : (m n : ℕ) → number m ≡ number n → m ≢ n → ⊥
      other m n e d = d (cc)

-- where `would_accept` says yes, the offer of any body of that id and length at that clock reading is accepted
pub yes_binds_lem : (c : Cache) (i n now : ℕ) → Limited c → would_accept i n now c ≡ true → (b : Body) → size b ≡ n
    → b.clock ≡ now → (offered i b c).answer ≡ done
unfolding would_accept
yes_binds_lem c i n now h w b e f =
    let l = c.limits in
    let largest = l.max_entry_size_bytes in
    let cap = l.max_entries_per_template in
    let live : Body → Bool = λ x. not (expired l.ttl now x) in
    let m = length (keep live (bodies_of i c.held)) in
    let fits = leb n l.max_total_bytes in
    let small = leb-true n largest (and_left (leb n largest) (fits && ltb m cap) w) in
    let few = ltb-true m cap (and_right fits (ltb m cap) (and_right (leb n largest) (fits && ltb m cap) w)) in
    let k = evictions l.max_total_bytes (size b) c.held in
    let held = held_within c h in
    let left = of_evicted i k live c.held held.differ in
    let m' = length (keep live (bodies_of i (drop k c.held))) in
    answer_in_full c h i b ∙ rw (le-ltb largest (size b) (omega arith), f, lt-leb cap m' (omega arith))
