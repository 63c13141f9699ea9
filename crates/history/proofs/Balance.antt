-- For every weight of a body, accepted = held + handed out + dropped + cleared; and both counters count.
-- Assumes nothing.
use mathlib.Core.Path.{◌≡◌, refl, ap}
use mathlib.Core.List.{List, [], ◌∷◌, map}
use mathlib.Core.Bool.{Bool, not}
use Prim.Native.Nat.{ℕ, ◌+◌, ◌-◌, min}
use native.Mathlib.Omega.{arith}
use lib.Dec.{eqb, ltb}
use Rattle.std.proofs.lemmas.List.Elements.{filter_map-append}
use lib.ListN.{length, drop, length-append, length-map}
use Rattle.config.specs.declared.PendingFlowsConfig.{PendingFlowsConfig}
use Rattle.config.specs.Limits.{config_number}
use Rattle.cache_model.specs.Bodies.{Body, size, sum_bodies, sum_templates, keep, all_bodies, bodies_of, expired}
use Rattle.cache_model.specs.Cache.{Cache, Answer, done, number, Outcome, counter_most, chance_of}
use Rattle.cache_model.specs.Offer.{Verdict, accepted, refused, accepted_bodies, refusal_drops, steps2to5, refused_size}
use Rattle.cache_model.specs.Offer.{settled, offered}
use Rattle.cache_model.specs.Calls.{drained, restored, may_put_back, put_back, shrunk, resized_to, resized, cleared}
use Rattle.cache_model.specs.History.{Call, Offer, Drain, PutBack, Resize, Clear}
use Rattle.cache_model.specs.History.{does}
use Rattle.cache_model.proofs.Weights.{sum_append, sum_templates_lem, sum_all, sum_keep, sum_without, sum_drop}
use Rattle.cache_model.proofs.Weights.{offer_conserves, shrunk_conserves}
use Rattle.history.specs.Account.{Event, call, refused_opening, offered_by, body, Account, Change, begun}
use Rattle.history.specs.Account.{no_change, size_refusal, refusal_unit, offer_change, drain_change, chance_ends}
use Rattle.history.specs.Account.{put_back_change, resize_change, clear_change, change, next, account_after}
use Rattle.history.specs.Account.{dropped_body, refused_ordinal, bodies_in, refusals_in}
use Rattle.history.proofs.Cases.{by_test}
use Rattle.history.proofs.Drops.{bodies_of_bodies, no_refusals}

-- ---- one call

-- the cache before a call, what came out of it, what it changed, and how many bodies it offered
record Balances (c : Cache) (o : Outcome) (d : Change) (offers : ℕ) : Type 0 where
  -- no body is lost or invented
  weights : (w : Body → ℕ) → sum_templates w o.cache.held + sum_bodies w o.cache.chance.bodies
      + sum_bodies w d.handed_out_for_good + sum_bodies w (bodies_in d.drops) + sum_bodies w d.cleared
      ≡ sum_templates w c.held + sum_bodies w c.chance.bodies + sum_bodies w d.accepted
  -- the counters go on counting
  cached : (n : ℕ) → c.cached ≡ min n counter_most → o.cache.cached ≡ min (n + length d.accepted) counter_most
  dropped : (n : ℕ) → c.dropped ≡ min n counter_most → o.cache.dropped ≡ min (n + length d.drops) counter_most
  -- an offer is accepted or refused
  offered : length d.accepted + length (refusals_in d.drops) ≡ offers

chance_bodies : (i : ℕ) (bs : List Body) → (chance_of i bs).bodies ≡ bs
chance_bodies i [] = refl
chance_bodies i (b ∷ bs) = refl

module _ (c : Cache) where
  unchanged_balances : (r : Answer) → Balances c (record { answer = r; cache = c }) no_change 0
  unchanged_balances r = record {
    weights = λ w. omega arith;
    cached = λ n e. omega arith;
    dropped = λ n e. omega arith;
    offered = refl;
  }

  size_refusal_balances : (b : Body) → Balances c (refused_size c) (size_refusal b) 1
  unfolding refused_size
  size_refusal_balances b = record {
    weights = λ w. omega arith;
    cached = λ n e. omega arith;
    dropped = λ n e. omega arith;
    offered = refl;
  }

  offer_balances : (i : ℕ) (b : Body)
      → let o = steps2to5 c.limits (expired c.limits.ttl b.clock) i b c.held in
      Balances c (settled c b o) (offer_change c b o) 1
  unfolding settled
  offer_balances i b =
      let l = c.limits in
      let old = expired l.ttl b.clock in
      let o = steps2to5 l old i b c.held in
      let removed = o.left.removed in
      let unit = refusal_unit b o.verdict in
      record {
        weights = λ w. omega (
          arith,
          offer_conserves w l old i b c.held,
          ap (sum_bodies w) (filter_map-append dropped_body (map body removed) unit),
          sum_append w (bodies_in (map body removed)) (bodies_in unit),
          ap (sum_bodies w) (bodies_of_bodies removed),
          ap (sum_bodies w) (unit_no_body o.verdict),
        );
        cached = λ n e. omega arith;
        dropped = λ n e. omega (
          arith,
          length-append (map body removed) unit,
          length-map removed body,
          length_unit o.verdict,
        );
        offered = omega (
          arith,
          ap length (filter_map-append refused_ordinal (map body removed) unit),
          length-append (refusals_in (map body removed)) (refusals_in unit),
          ap length (no_refusals removed),
          one_each o.verdict,
        );
      }
    where
      unit_no_body : (v : Verdict) → bodies_in (refusal_unit b v) ≡ []
      unit_no_body accepted = refl
      unit_no_body (refused n) = refl

      length_unit : (v : Verdict) → length (refusal_unit b v) ≡ refusal_drops v
      length_unit accepted = refl
      length_unit (refused n) = refl

      one_each : (v : Verdict) → length (accepted_bodies v b) + length (refusals_in (refusal_unit b v)) ≡ 1
      one_each accepted = refl
      one_each (refused n) = refl

  put_back_balances : (i n : ℕ) → Balances c (record { answer = done; cache = restored i n c }) (put_back_change n c) 0
  unfolding restored
  put_back_balances i n =
      let bs = c.chance.bodies in
      let k = length bs - n in
      record {
        weights = λ w. omega (
          arith,
          sum_drop w k bs,
          sum_templates_lem w c.held (record { id = i; bodies = drop k bs } ∷ []),
        );
        cached = λ m e. omega arith;
        dropped = λ m e. omega arith;
        offered = refl;
      }

  -- of a call that ends the chance, drops the bodies bs, and clears the bodies cs
  ends_balances : (o : Outcome) (bs cs : List Body)
      → ((w : Body → ℕ) → sum_templates w o.cache.held + sum_bodies w o.cache.chance.bodies
      + sum_bodies w bs + sum_bodies w cs ≡ sum_templates w c.held)
      → ((n : ℕ) → c.cached ≡ min n counter_most → o.cache.cached ≡ min n counter_most)
      → ((n : ℕ) → c.dropped ≡ min n counter_most → o.cache.dropped ≡ min (n + length bs) counter_most)
      → Balances c o (chance_ends c bs cs) 0
  ends_balances o bs cs sums cached dropped = record {
    weights = λ w. omega (arith, sums w, ap (sum_bodies w) (bodies_of_bodies bs));
    cached = λ n e. omega (arith, cached n e);
    dropped = λ n e. omega (arith, dropped n e, length-map bs body);
    offered = omega (arith, ap length (no_refusals bs));
  }

  drain_balances : (i now : ℕ) → Balances c (drained i now c) (drain_change i now c) 0
  unfolding drained
  drain_balances i now =
      let old : Body → Bool = λ b. expired c.limits.ttl now b in
      let bs = bodies_of i c.held in
      let live = keep (λ b. not (old b)) bs in
      ends_balances (drained i now c) (keep old bs) []
      (λ w. omega (arith, sum_without w i c.held, sum_keep w old bs, ap (sum_bodies w) (chance_bodies i live)))
      (λ n e. e)
      (λ n e. omega arith)

  resize_balances : (l : PendingFlowsConfig)
      → Balances c (resized_to l c (shrunk l c.held)) (resize_change l c) 0
  unfolding resized_to
  resize_balances l =
      let s = shrunk l c.held in
      ends_balances (resized_to l c s) s.removed []
      (λ w. omega (arith, shrunk_conserves w l c.held))
      (λ n e. e)
      (λ n e. omega arith)

  clear_balances : Balances c (cleared c) (clear_change c) 0
  unfolding cleared
  clear_balances =
      ends_balances (cleared c) [] (all_bodies c.held)
      (λ w. omega (arith, sum_all w c.held))
      (λ n e. e)
      (λ n e. omega arith)

  call_balances : (k : ℕ) (x : Call) → Balances c (does k x c) (change k x c) (length (offered_by k (call x)))
  unfolding does change offered put_back resized
  call_balances k (Offer i bytes now) =
      let b : Body = record { number = k; bytes = bytes; clock = now } in
      by_test (λ o d. Balances c o d 1) (ltb c.limits.max_entry_size_bytes (size b))
      (λ _. size_refusal_balances b)
      (λ _. offer_balances i b)
  call_balances k (Drain i now) = drain_balances i now
  call_balances k (PutBack i n) =
      let Kept : Outcome → Change → Type 0 = λ o d. Balances c o d 0 in
      by_test Kept (eqb n 0)
      (λ _. unchanged_balances done)
      (λ _. by_test Kept (may_put_back i n c) (λ _. put_back_balances i n) (λ _. unchanged_balances (number 25)))
  call_balances k (Resize l bytes words) =
      let n = config_number l bytes words in
      by_test (λ o d. Balances c o d 0) (eqb n 0) (λ _. resize_balances l) (λ _. unchanged_balances (number n))
  call_balances k Clear = clear_balances
  call_balances k query = unchanged_balances (does k query c).answer

-- ---- the account

pub record Balanced (a : Account) : Type 0 where
  -- held, handed out, dropped and cleared are together accepted
  pub weights : (w : Body → ℕ) → sum_templates w a.cache.held + (sum_bodies w a.handed_out_for_good
      + sum_bodies w a.cache.chance.bodies) + sum_bodies w (bodies_in a.drops) + sum_bodies w a.cleared
      ≡ sum_bodies w a.accepted
  -- the counters count, up to where they stop
  pub cached : a.cache.cached ≡ min (length a.accepted) counter_most
  pub dropped : a.cache.dropped ≡ min (length a.drops) counter_most
  -- each offer was accepted or refused
  pub offers : length a.accepted + length (refusals_in a.drops) ≡ a.offers

pub begun_balanced : (l : PendingFlowsConfig) → Balanced (begun l)
begun_balanced l = record {
  weights = λ w. refl;
  cached = refl;
  dropped = refl;
  offers = refl;
}

next_balanced : (e : Event) (a : Account) → Balanced a → Balanced (next e a)
unfolding next
next_balanced (call x) a h =
    let d = change a.offers x a.cache in
    let b = call_balances a.cache a.offers x in
    record {
      weights = λ w. omega (
        arith,
        h.weights w,
        b.weights w,
        sum_append w a.accepted d.accepted,
        sum_append w a.handed_out_for_good d.handed_out_for_good,
        sum_append w a.cleared d.cleared,
        ap (sum_bodies w) (filter_map-append dropped_body a.drops d.drops),
        sum_append w (bodies_in a.drops) (bodies_in d.drops),
      );
      cached = rw (length-append a.accepted d.accepted) (b.cached (length a.accepted) h.cached);
      dropped = rw (length-append a.drops d.drops) (b.dropped (length a.drops) h.dropped);
      offers = omega (
        arith,
        b.offered,
        length-append a.accepted d.accepted,
        ap length (filter_map-append refused_ordinal a.drops d.drops),
        length-append (refusals_in a.drops) (refusals_in d.drops),
      );
    }
next_balanced (refused_opening o) a h = h

pub all_balanced : (es : List Event) (a : Account) → Balanced a → Balanced (account_after es a)
unfolding account_after
all_balanced [] a h = h
all_balanced (e ∷ es) a h = all_balanced es (next e a) (next_balanced e a h)
