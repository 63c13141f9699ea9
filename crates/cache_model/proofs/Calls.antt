-- Every call keeps the limits: nowhere passed, with the chance counted as one more template.
-- Assumes nothing.
use mathlib.Core.Path.{◌≡◌, refl}
use mathlib.Core.Logic.{◌≢◌}
use mathlib.Core.List.{List, [], ◌∷◌, ◌++◌, append-nil}
use mathlib.Core.Bool.{Bool, true, not}
use Prim.Native.Nat.{ℕ, ◌-◌, ◌≤◌, ◌<◌}
use native.Mathlib.Omega.{arith}
use lib.Dec.{eqb, leb, ltb}
use lib.ListN.{length, drop, length-drop}
use borrow.Author.Tests.{eqb-true, eqb-false, leb-true, ltb-false}
use Rattle.config.specs.declared.PendingFlowsConfig.{PendingFlowsConfig}
use Rattle.config.specs.Limits.{config_number}
use Rattle.config.proofs.Tests.{by_case, and_left, and_right}
use Rattle.config.proofs.Lists.{All, all_last}
use Rattle.cache_model.specs.Bodies.{Body, Template, size, keep, bodies_of, without, unless_empty, expired}
use Rattle.cache_model.specs.Cache.{Cache, Outcome, chance_of}
use Rattle.cache_model.specs.Offer.{accepted_bodies, steps2to5, refused_size, settled, offered}
use Rattle.cache_model.specs.Calls.{opened, drained, restored, may_put_back, put_back, shrunk, resized_to, resized}
use Rattle.cache_model.specs.Calls.{cleared}
use Rattle.cache_model.specs.History.{Call, Offer, Drain, PutBack, Resize, Clear, WouldAccept, ReadHandedOut}
use Rattle.cache_model.specs.History.{PlaceHandedOut, TakeFigures, does}
use Rattle.cache_model.proofs.Lists.{none, both, SubList, all_sub, part_map, part_append}
use Rattle.cache_model.proofs.Lists.{length_part, sub_all, sub_front, sub_drop}
use Rattle.cache_model.proofs.Weights.{sum_without}
use Rattle.cache_model.proofs.Parts.{fewer_equal, sub_keep, sub_without, sum_sub, bodies_of_have}
use Rattle.cache_model.proofs.Parts.{length_without, unless_empty_filled}
use Rattle.cache_model.proofs.Limits.{LegalLimits, config_legal, Within, nothing_within, within_part}
use Rattle.cache_model.proofs.Limits.{within_sub, renewed_within, Followed, followed_within}
use Rattle.cache_model.proofs.Offers.{offer_within}
use Rattle.cache_model.proofs.Resizes.{shrunk_within}

-- what is held, and what may still be put back as one more template
abbrev pub whole : Cache → List Template
whole c = c.held ++ unless_empty c.chance.id c.chance.bodies []

-- nor by a cache, what may be put back counted
pub record CacheWithin (F : Followed) (new : List Body) (c : Cache) : Type 0 where
  pub legal : LegalLimits c.limits
  pub within : Within c.limits F new (whole c)

-- ---- drain and put-back

chance_whole : (i : ℕ) (bs : List Body) (ts : List Template)
    → unless_empty (chance_of i bs).id (chance_of i bs).bodies ts ≡ unless_empty i bs ts
chance_whole i [] ts = refl
chance_whole i (b ∷ bs) ts = refl

module _ {l : PendingFlowsConfig} {F : Followed} where
  -- some of an id's bodies, as the last template
  handed_out_within : (i : ℕ) (ts : List Template) (live : List Body) → SubList live (bodies_of i ts)
      → Within l F [] ts → Within l F [] (without i ts ++ unless_empty i live [])
  handed_out_within i ts [] s h = rw append-nil (within_sub (sub_without i ts) h)
  handed_out_within i ts (x ∷ xs) s h =
      let most = l.max_entries_per_template in
      let Fits : Body → Type 0 = λ b. size b ≤ l.max_entry_size_bytes in
      renewed_within i ts (x ∷ xs) h
      (omega (arith, h.few, length_without i ts (omega (arith, length_part s))))
      (omega (arith, length_part s, bodies_of_have (λ bs. length bs ≤ most) (omega arith) i ts h.caps))
      (all_sub Fits s (bodies_of_have (All Fits) tt i ts h.small))
      (F.inherited [] (x ∷ xs) (bodies_of i ts) s (bodies_of_have (F.Holds []) F.empty i ts h.followed))
      (omega arith)
      (omega (arith, h.room, sum_without size i ts, sum_sub size s))

  -- the last n of the chance's bodies, as the newest template
  put_back_within : (i n : ℕ) (ts : List Template) (chance : Template) → i ≡ chance.id → 0 < n
      → n ≤ length chance.bodies → Within l F [] (ts ++ unless_empty chance.id chance.bodies [])
      → Within l F [] (ts ++ (record { id = i; bodies = drop (length chance.bodies - n) chance.bodies } ∷ []))
  put_back_within i n ts chance e some few h =
      let Some : Template → Type 0 = λ u. 0 < length u.bodies in
      let bs = chance.bodies in
      let k = length bs - n in
      let alone = unless_empty_filled chance.id bs [] (omega arith) in
      let whole : Within l F [] (ts ++ (chance ∷ [])) = rw alone at h in
      let front = all_sub Some (sub_front ts (chance ∷ [])) whole.filled in
      within_part
      (part_append (part_map fewer_equal (sub_all ts)) (both (e, sub_drop k bs) none))
      (all_last Some ts (record { id = i; bodies = drop k bs }) front (omega (arith, length-drop k bs)))
      whole

  no_chance_within : {new : List Body} (ts : List Template) → Within l F new ts → Within l F new (ts ++ [])
  no_chance_within ts h = rw append-nil h

-- ---- the calls

module _ {F : Followed} (c : Cache) (h : CacheWithin F [] c) where
  pub held_within : Within c.limits F [] c.held
  held_within = within_sub (sub_front c.held (unless_empty c.chance.id c.chance.bodies [])) h.within

  pub refused_size_within : CacheWithin F [] (refused_size c).cache
  unfolding refused_size
  refused_size_within = record { legal = h.legal; within = h.within }

  pub settled_within : (i : ℕ) (b : Body) → size b ≤ c.limits.max_entry_size_bytes
      → let o = steps2to5 c.limits (expired c.limits.ttl b.clock) i b c.held in
      CacheWithin F (accepted_bodies o.verdict b) (settled c b o).cache
  unfolding settled
  settled_within i b small =
      let l = c.limits in
      let old = expired l.ttl b.clock in
      record {
        legal = h.legal;
        within = no_chance_within (steps2to5 l old i b c.held).left.held
            (offer_within l h.legal F old i b small c.held held_within);
      }

  pub drained_within : (i now : ℕ) → CacheWithin F [] (drained i now c).cache
  unfolding drained
  drained_within i now =
      let p : Body → Bool = λ b. not (expired c.limits.ttl now b) in
      let bs = bodies_of i c.held in
      record {
        legal = h.legal;
        within = rw (chance_whole i (keep p bs) [])
            (handed_out_within i c.held (keep p bs) (sub_keep p bs) held_within);
      }

  pub restored_within : (i n : ℕ) → n ≢ 0 → may_put_back i n c ≡ true → CacheWithin F [] (restored i n c)
  unfolding restored
  restored_within i n some e =
      let bs = c.chance.bodies in
      let same = eqb i c.chance.id in
      let enough = leb n (length bs) in
      record {
        legal = h.legal;
        within = no_chance_within (c.held ++ (record { id = i; bodies = drop (length bs - n) bs } ∷ []))
            (put_back_within i n c.held c.chance (eqb-true i c.chance.id (and_left same enough e))
            (omega arith) (leb-true n (length bs) (and_right same enough e)) h.within);
      }

  pub put_back_keeps : (i n : ℕ) → CacheWithin F [] (put_back i n c).cache
  unfolding put_back
  put_back_keeps i n =
      let Kept : Outcome → Type 0 = λ o. CacheWithin F [] o.cache in
      by_case Kept (eqb n 0)
      (λ _. h)
      (λ e. by_case Kept (may_put_back i n c) (restored_within i n (eqb-false n 0 e)) (λ _. h))

  pub resized_to_within : (l : PendingFlowsConfig) → LegalLimits l
      → CacheWithin F [] (resized_to l c (shrunk l c.held)).cache
  unfolding resized_to
  resized_to_within l legal = record {
    legal = legal;
    within = no_chance_within (shrunk l c.held).held (shrunk_within l c.held legal held_within);
  }

  pub resized_within : (l : PendingFlowsConfig) (bytes words : ℕ) → CacheWithin F [] (resized l bytes words c).cache
  unfolding resized
  resized_within l bytes words =
      let n = config_number l bytes words in
      by_case (λ (o : Outcome). CacheWithin F [] o.cache) (eqb n 0)
      (λ e. resized_to_within l (config_legal l bytes words (eqb-true n 0 e)))
      (λ _. h)

  pub cleared_within : CacheWithin F [] (cleared c).cache
  unfolding cleared
  cleared_within = record { legal = h.legal; within = nothing_within c.limits F [] }

-- ---- the limits alone

abbrev pub limits_alone : Followed
limits_alone = record {
  Holds = λ new bs. Unit {0};
  empty = tt;
  inherited = λ new xs ys s h. tt;
  later = λ b bs h. tt;
  joins = λ b bs h. tt;
}

abbrev pub Limited : Cache → Type 0
Limited c = CacheWithin limits_alone [] c

pub limited : {F : Followed} {new : List Body} {c : Cache} → CacheWithin F new c → Limited c
limited h = record { legal = h.legal; within = followed_within (λ bs _. tt) h.within }

-- A cache that was opened is within its limits, and every call keeps it there. Final facts, which no proof cites.
pub opened_limited : (l : PendingFlowsConfig) → LegalLimits l → Limited (opened l)
opened_limited l legal = record { legal = legal; within = nothing_within l limits_alone [] }

pub does_limited : (k : ℕ) (x : Call) (c : Cache) → Limited c → Limited (does k x c).cache
unfolding does offered
does_limited k (Offer i bytes now) c h =
    let b : Body = record { number = k; bytes = bytes; clock = now } in
    let most = c.limits.max_entry_size_bytes in
    by_case (λ (o : Outcome). Limited o.cache) (ltb most (size b))
    (λ _. refused_size_within c h)
    (λ e. limited (settled_within c h i b (ltb-false most (size b) e)))
does_limited k (Drain i now) c h = drained_within c h i now
does_limited k (PutBack i n) c h = put_back_keeps c h i n
does_limited k (Resize l bytes words) c h = resized_within c h l bytes words
does_limited k Clear c h = cleared_within c h
does_limited k (WouldAccept i n now) c h = h
does_limited k (ReadHandedOut n) c h = h
does_limited k (PlaceHandedOut n) c h = h
does_limited k TakeFigures c h = h
