-- What the answers tell: which offers were accepted and which refused with a drop; and none is 28.
-- Assumes nothing.
use mathlib.Core.Path.{◌≡◌, refl, sym, ap, ◌∙◌, subst}
use mathlib.Core.Logic.{◌≢◌, ◌⊎◌, inl, inr, ⊎_elim}
use mathlib.Core.List.{List, [], ◌∷◌, ◌++◌, map, append-nil, append_assoc, map-append, Memᴰ as Member}
use mathlib.Core.List.Memᴰ
use mathlib.Core.Bool.{Bool, true, false, cond}
use Prim.Native.Nat.{ℕ, ◌+◌, ◌≤◌, ◌<◌}
use native.Mathlib.Omega.{arith}
use lib.Dec.{eqb, leb, ltb}
use lib.ListN.{length}
use Rattle.std.proofs.lemmas.Bool.Decides.{nat_tests}
use Rattle.std.proofs.lemmas.List.Elements.{filter_map-append}
use Rattle.std.proofs.lemmas.List.Sums.{sum_by-cons}
use borrow.Author.Tests.{eqb-true, ltb-false}
use Rattle.config.specs.declared.PendingFlowsConfig.{PendingFlowsConfig}
use Rattle.config.specs.Limits.{limits_number, config_number}
use Rattle.config.proofs.Tests.{by_case}
use Rattle.cache_model.specs.Bodies.{Body, size, keep, all_bodies, bodies_of, expired}
use Rattle.cache_model.specs.Removal.{Split}
use Rattle.cache_model.specs.Cache.{Cache, Answer, done, number, count, spans, Outcome}
use Rattle.cache_model.specs.Offer.{Verdict, accepted, refused, verdict_answer, steps2to5, refused_size, settled}
use Rattle.cache_model.specs.Offer.{offered}
use Rattle.cache_model.specs.Calls.{drained, may_put_back, put_back, shrunk, resized_to, resized, cleared}
use Rattle.cache_model.specs.Queries.{read_handed_out, place_handed_out, handed_out}
use Rattle.cache_model.specs.History.{Call, Offer, Drain, PutBack, Resize, Clear}
use Rattle.cache_model.specs.History.{PlaceHandedOut, does}
use Rattle.cache_model.proofs.Calls.{Limited, limited, held_within}
use Rattle.cache_model.proofs.Acceptance.{verdict_in_full, unexpired}
use Rattle.history.specs.Account.{opening_number, Event, call, refused_opening, offered_by, body, Account, Change}
use Rattle.history.specs.Account.{no_change, change, next, answer_to, account_after, answers_to, refusals_in}
use Rattle.history.specs.Account.{refused_offer, refused_ordinal, offer_change, put_back_change, chance_ends}
use Rattle.history.specs.Claim.{offers_in, offers_answered, ordinals, is_done, is_refusal, times_in}
use Rattle.history.proofs.Cases.{by_test, cond_same, one_offer, length_offered}
use Rattle.history.proofs.Drops.{no_refusals}
use Rattle.history.proofs.Order.{InOrder, next_in_order}

-- ---- one call

-- what an answer to an offer of these bodies, or of none, tells of the change
record Tells (offered : List Body) (r : Answer) (d : Change) : Type 0 where
  accepted : d.accepted ≡ cond (is_done r) offered []
  refusals : refusals_in d.drops ≡ ordinals (cond (is_refusal r) offered [])
  not28 : r ≢ number 28

abbrev pub number_of : Answer → ℕ
number_of (number n) = n
number_of r = 0

pub below28 : (r : Answer) → number_of r < 28 → r ≢ number 28
below28 r h e = omega (arith, ap number_of e)

pub config_number_small : (l : PendingFlowsConfig) (bytes words : ℕ) → config_number l bytes words ≤ 5
unfolding config_number limits_number
config_number_small l bytes words = grind (arith, nat_tests)

or_27_below28 : (q : Bool) (r : Answer) → number_of r < 28 → number_of (cond q r (number 27)) < 28
or_27_below28 true r h = h
or_27_below28 false r h = omega arith

-- of a call that is no offer
tells_nothing : (r : Answer) (d : Change) → d.accepted ≡ [] → refusals_in d.drops ≡ [] → number_of r < 28
    → Tells [] r d
tells_nothing r d e f h = record {
  accepted = e ∙ sym (cond_same (is_done r) []);
  refusals = f ∙ ap ordinals (sym (cond_same (is_refusal r) []));
  not28 = below28 r h;
}

tells_no_refusal : (r : Answer) (c : Cache) (bs cs : List Body) → number_of r < 28 → Tells [] r (chance_ends c bs cs)
tells_no_refusal r c bs cs h = tells_nothing r (chance_ends c bs cs) refl (no_refusals bs) h

-- of an offer, after the size test, with a verdict that it can get within the limits
tells_verdict : (c : Cache) (b : Body) (s : Split) (full : Bool) → let v = cond full (refused 20) accepted in
    Tells (b ∷ []) (verdict_answer v) (offer_change c b (record { verdict = v; left = s }))
tells_verdict c b s true = record {
  accepted = refl;
  refusals = filter_map-append refused_ordinal (map body s.removed) (refused_offer b.number ∷ [])
      ∙ ap (λ (ks : List ℕ). ks ++ (b.number ∷ [])) (no_refusals s.removed);
  not28 = below28 (number 20) (omega arith);
}
tells_verdict c b s false = record {
  accepted = refl;
  refusals = filter_map-append refused_ordinal (map body s.removed) [] ∙ append-nil (refusals_in (map body s.removed))
      ∙ no_refusals s.removed;
  not28 = below28 done (omega arith);
}

offer_tells : (c : Cache) → Limited c → (i : ℕ) (b : Body) → size b ≤ c.limits.max_entry_size_bytes
    → let o = steps2to5 c.limits (expired c.limits.ttl b.clock) i b c.held in
    Tells (b ∷ []) (verdict_answer o.verdict) (offer_change c b o)
offer_tells c h i b small =
    let l = c.limits in
    let old = expired l.ttl b.clock in
    let s = (steps2to5 l old i b c.held).left in
    let full = leb l.max_entries_per_template (unexpired l old i b c.held) in
    subst (λ (v : Verdict). Tells (b ∷ []) (verdict_answer v) (offer_change c b (record { verdict = v; left = s })))
    (sym (verdict_in_full l old i b h.legal small c.held (held_within c h).differ)) (tells_verdict c b s full)

offered_tells : (k i : ℕ) (bytes : List ℕ) (now : ℕ) (c : Cache) → Limited c
    → let b : Body = record { number = k; bytes = bytes; clock = now } in
    Tells (b ∷ []) (offered i b c).answer (change k (Offer i bytes now) c)
unfolding change offered settled refused_size
offered_tells k i bytes now c h =
    let b : Body = record { number = k; bytes = bytes; clock = now } in
    let most = c.limits.max_entry_size_bytes in
    by_test (λ o d. Tells (b ∷ []) o.answer d) (ltb most (size b))
    (λ _. record { accepted = refl; refusals = refl; not28 = below28 (number 6) (omega arith) })
    (λ e. offer_tells c h i b (ltb-false most (size b) e))

call_tells : (k : ℕ) (x : Call) (c : Cache) → Limited c
    → Tells (offered_by k (call x)) (does k x c).answer (change k x c)
unfolding does change drained put_back resized resized_to cleared read_handed_out place_handed_out
call_tells k (Offer i bytes now) c h = offered_tells k i bytes now c h
call_tells k (Drain i now) c h =
    let old = keep (λ b. expired c.limits.ttl now b) (bodies_of i c.held) in
    tells_no_refusal (drained i now c).answer c old [] (omega arith)
call_tells k (PutBack i n) c h =
    let Told : Outcome → Change → Type 0 = λ o d. Tells [] o.answer d in
    by_test Told (eqb n 0)
    (λ _. tells_nothing done no_change refl refl (omega arith))
    (λ _. by_test Told (may_put_back i n c)
    (λ _. tells_nothing done (put_back_change n c) refl refl (omega arith))
    (λ _. tells_nothing (number 25) no_change refl refl (omega arith)))
call_tells k (Resize l bytes words) c h =
    let n = config_number l bytes words in
    let removed = (shrunk l c.held).removed in
    by_test (λ o d. Tells [] o.answer d) (eqb n 0)
    (λ _. tells_no_refusal (count (length removed)) c removed [] (omega arith))
    (λ _. tells_nothing (number n) no_change refl refl (omega (arith, config_number_small l bytes words)))
call_tells k Clear c h = tells_no_refusal done c [] (all_bodies c.held) (omega arith)
call_tells k (PlaceHandedOut n) c h =
    let span = spans (size (handed_out n c)) in
    tells_nothing (place_handed_out n c) no_change refl refl
    (or_27_below28 (ltb n (length c.chance.bodies)) span (omega arith))
call_tells k query c h = tells_nothing (does k query c).answer no_change refl refl (omega arith)

-- ---- a list of events

record EventTells (e : Event) (a : Account) : Type 0 where
  accepted : (next e a).accepted ≡ a.accepted ++ cond (is_done (answer_to e a)) (offered_by a.offers e) []
  refusals : refusals_in (next e a).drops
      ≡ refusals_in a.drops ++ ordinals (cond (is_refusal (answer_to e a)) (offered_by a.offers e) [])
  offers : (next e a).offers ≡ a.offers + length (offered_by a.offers e)
  not28 : answer_to e a ≢ number 28

event_tells : (e : Event) (a : Account) → InOrder a → EventTells e a
unfolding next answer_to
event_tells (call x) a h =
    let d = change a.offers x a.cache in
    let t = call_tells a.offers x a.cache (limited h) in
    record {
      accepted = ap (λ (bs : List Body). a.accepted ++ bs) t.accepted;
      refusals = filter_map-append refused_ordinal a.drops d.drops
          ∙ ap (λ (ks : List ℕ). refusals_in a.drops ++ ks) t.refusals;
      offers = refl;
      not28 = t.not28;
    }
event_tells (refused_opening o) a h =
    let small = config_number_small o.limits o.bytes o.words in
    let t = tells_nothing (number (opening_number o)) no_change refl refl (omega arith) in
    record {
      accepted = sym (append-nil a.accepted) ∙ ap (λ (bs : List Body). a.accepted ++ bs) t.accepted;
      refusals = sym (append-nil (refusals_in a.drops))
          ∙ ap (λ (ks : List ℕ). refusals_in a.drops ++ ks) t.refusals;
      offers = omega arith;
      not28 = t.not28;
    }

pub record Told (es : List Event) (a : Account) : Type 0 where
  pub accepted : (account_after es a).accepted ≡ a.accepted ++ offers_answered is_done a.offers es (answers_to es a)
  pub refusals : refusals_in (account_after es a).drops
      ≡ refusals_in a.drops ++ ordinals (offers_answered is_refusal a.offers es (answers_to es a))
  pub offers : (account_after es a).offers ≡ a.offers + offers_in es
  pub never28 : Member (number 28) (answers_to es a) → ⊥

pub all_told : (es : List Event) (a : Account) → InOrder a → Told es a
unfolding account_after answers_to
all_told [] a h = record {
  accepted = sym (append-nil a.accepted);
  refusals = sym (append-nil (refusals_in a.drops));
  offers = omega arith;
  never28 = λ m. Memᴰ.not-nil m;
}
all_told (e ∷ es) a h =
    let t = event_tells e a h in
    let rest = all_told es (next e a) (next_in_order e a h) in
    record {
      accepted = rest.accepted ∙ rw (t.accepted, t.offers, append_assoc);
      refusals = rest.refusals ∙ rw (t.refusals, t.offers, append_assoc, map-append);
      offers = omega (
        arith,
        rest.offers,
        t.offers,
        length_offered a.offers e,
        sum_by-cons (λ (f : Event). length (offered_by 0 f)) e es,
      );
      never28 = λ m. ⊎_elim (λ e. t.not28 (sym e)) rest.never28 (Memᴰ.cases_cons m);
    }

-- ---- ordinals

-- of bodies whose ordinals begin with k: each stands at most once, and none is below k
abbrev OnceFrom : ℕ → ℕ → List Body → Type 0
OnceFrom n k bs = (times_in n bs ≤ 1) × (n < k → times_in n bs ≡ 0)

once_more : (q : Bool) (n k : ℕ) (bs rest : List Body)
    → (bs ≡ []) ⊎ ((b : Body) × (b.number ≡ k) × (bs ≡ b ∷ [])) → OnceFrom n (k + length bs) rest
    → OnceFrom n k (cond q bs [] ++ rest)
once_more q n k bs rest (inl none) h = rw (none, cond_same) (h.0, λ l. h.1 (omega (arith, ap length none)))
once_more q n k bs rest (inr one) h =
    let same = one.1 in
    let long = ap length one.2 in
    rw one.2
    (by_case (λ (xs : List Body). OnceFrom n k (xs ++ rest)) q
    (λ _. by_case (λ (m : ℕ). (m + times_in n rest ≤ 1) × (n < k → m + times_in n rest ≡ 0)) (eqb n one.0.number)
    (λ e. here (eqb-true n one.0.number e ∙ same) (h.1 (omega (arith, eqb-true n one.0.number e))))
    (λ _. (omega (arith, h.0), λ l. omega (arith, h.1 (omega arith)))))
    (λ _. (h.0, λ l. h.1 (omega arith))))
  where
    here : n ≡ k → times_in n rest ≡ 0 → (1 + times_in n rest ≤ 1) × (n < k → 1 + times_in n rest ≡ 0)
    here e z = (omega arith, λ l. omega arith)

pub offered_once : (p : Answer → Bool) (n k : ℕ) (es : List Event) (rs : List Answer)
    → OnceFrom n k (offers_answered p k es rs)
offered_once p n k [] rs = (omega arith, λ _. refl)
offered_once p n k (e ∷ es) [] = (omega arith, λ _. refl)
offered_once p n k (e ∷ es) (r ∷ rs) =
    let k' = k + length (offered_by k e) in
    once_more (p r) n k (offered_by k e) (offers_answered p k' es rs) (one_offer k e) (offered_once p n k' es rs)
