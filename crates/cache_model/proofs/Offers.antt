-- An offer keeps the limits, whichever way its steps go.
-- Assumes nothing.
use mathlib.Core.Path.{◌≡◌, refl, ap}
use mathlib.Core.List.{List, [], ◌∷◌, ◌++◌}
use mathlib.Core.Bool.{Bool, not, ◌&&◌}
use Prim.Native.Nat.{ℕ, ◌+◌, ◌≤◌, ◌<◌}
use native.Mathlib.Omega.{arith}
use lib.Dec.{eqb, leb, ltb}
use lib.ListN.{length, drop, length-append, length-drop}
use borrow.Author.Tests.{leb-false, ltb-false}
use Rattle.config.specs.declared.PendingFlowsConfig.{PendingFlowsConfig}
use Rattle.config.proofs.Tests.{by_case}
use Rattle.config.proofs.Lists.{All, all_last}
use Rattle.cache_model.specs.Bodies.{Body, Template, size, byte_total, bodies_of, without}
use Rattle.cache_model.specs.Removal.{Split, untouched, evicted, evictions, pruned}
use Rattle.cache_model.specs.Offer.{Offered, appended, accepted_bodies, step2, step3, step4, step5, add_newest}
use Rattle.cache_model.specs.Offer.{step4or5, after_step3, after_step2, steps2to5}
use Rattle.cache_model.proofs.Lists.{Part, part_map, length_part, sub_drop}
use Rattle.cache_model.proofs.Weights.{sum_append, sum_without}
use Rattle.cache_model.proofs.Parts.{Fewer, fewer_equal, sub_without, kept_part, sum_part, Absent, absent_part}
use Rattle.cache_model.proofs.Parts.{bodies_of_have, absent_has_none, none_so_absent, length_without}
use Rattle.cache_model.proofs.Limits.{LegalLimits, Within, evicted_within, pruned_within, renewed_within}
use Rattle.cache_model.proofs.Limits.{Followed, followed_within}

-- an offer, after the size test
module _ (l : PendingFlowsConfig) (legal : LegalLimits l) (F : Followed) (old : Body → Bool) (i : ℕ) (b : Body)
    (small : size b ≤ l.max_entry_size_bytes) where
  abbrev Sound : List Template → Type 0
  Sound ts = Within l F [] ts

  abbrev Kept : Offered → Type 0
  Kept o = Within l F (accepted_bodies o.verdict b) o.left.held

  -- what is held leaves room for the body
  abbrev Room : List Template → Type 0
  Room ts = byte_total ts + size b ≤ l.max_total_bytes

  appended_within : (s : Split) → Sound s.held → Room s.held
      → length (bodies_of i s.held) < l.max_entries_per_template
      → length (without i s.held) < l.max_pending_flows → Within l F (b ∷ []) (appended i b s).held
  unfolding appended
  appended_within s h room cap few =
      let bs = bodies_of i s.held in
      let Fits : Body → Type 0 = λ x. size x ≤ l.max_entry_size_bytes in
      renewed_within i s.held (bs ++ (b ∷ [])) (followed_within (F.later b) h) few
      (omega (arith, length-append bs (b ∷ [])))
      (all_last Fits bs b (bodies_of_have (All Fits) tt i s.held h.small) small)
      (F.joins b bs (bodies_of_have (F.Holds []) F.empty i s.held h.followed))
      (omega (arith, length-append bs (b ∷ [])))
      (omega (arith, sum_append size bs (b ∷ []), sum_without size i s.held))

  -- of an id that is not held
  new_within : (s : Split) → Sound s.held → Room s.held → Absent i s.held
      → length s.held < l.max_pending_flows → Within l F (b ∷ []) (appended i b s).held
  new_within s h room a few =
      appended_within s h room (omega (arith, ap length (absent_has_none i s.held a)))
      (omega (arith, length_part (sub_without i s.held)))

  newest_within : (s : Split) → Sound s.held → Room s.held → Absent i s.held
      → Kept (add_newest l old i b s)
  unfolding add_newest evicted
  newest_within s h room a =
      let most = l.max_pending_flows in
      let less : Part Fewer (drop 1 s.held) s.held = part_map fewer_equal (sub_drop 1 s.held) in
      by_case Kept (leb most (length s.held))
      (λ _. new_within (evicted 1 s) (evicted_within 1 s h)
      (omega (arith, sum_part size less)) (absent_part i less a) (omega (arith, h.few, length-drop 1 s.held)))
      (λ e. new_within s h room a (leb-false most (length s.held) e))

  step5_within : (s : Split) → Sound s.held → Room s.held → Absent i s.held
      → Kept (step5 l old i b s)
  unfolding step5 pruned
  step5_within s h room a =
      let most = l.max_pending_flows in
      let p : ℕ → Body → Bool = λ j x. not (old x) in
      let less = kept_part p s.held in
      by_case Kept (leb most (length s.held))
      (λ _. newest_within (pruned p s) (pruned_within p s h)
      (omega (arith, sum_part size less)) (absent_part i less a))
      (λ e. new_within s h room a (leb-false most (length s.held) e))

  step4_within : (s : Split) → Sound s.held → Room s.held → 0 < length (bodies_of i s.held)
      → Kept (step4 l old i b s)
  unfolding step4
  step4_within s h room some =
      let n = length (bodies_of i s.held) in
      by_case Kept (leb l.max_entries_per_template n)
      (λ _. h)
      (λ e. appended_within s h room (leb-false l.max_entries_per_template n e)
      (omega (arith, h.few, length_without i s.held some)))

  step4or5_within : (bs : List Body) (s : Split) → bodies_of i s.held ≡ bs → Sound s.held
      → Room s.held → Kept (step4or5 l old i b bs s)
  unfolding step4or5
  step4or5_within [] s e h room = step5_within s h room (none_so_absent i s.held h.filled e)
  step4or5_within (x ∷ xs) s e h room = step4_within s h room (omega (arith, ap length e))

  after_step2_within : (s : Split) → Sound s.held → Kept (after_step2 l old i b s)
  unfolding after_step2 after_step3 step3 pruned
  after_step2_within s h =
      let p : ℕ → Body → Bool = λ j x. not (eqb i j && old x) in
      let most = l.max_total_bytes in
      let total = byte_total s.held + size b in
      let left = pruned p s in
      by_case Kept (ltb most total)
      (λ _. h)
      (λ e. step4or5_within (bodies_of i left.held) left refl (pruned_within p s h)
      (omega (arith, ltb-false most total e, sum_part size (kept_part p s.held))))

  pub offer_within : (ts : List Template) → Sound ts → Kept (steps2to5 l old i b ts)
  unfolding steps2to5 step2
  offer_within ts h =
      let n = evictions l.max_total_bytes (size b) ts in
      after_step2_within (evicted n (untouched ts)) (evicted_within n (untouched ts) h)
