-- The history theorem: what the calls' contracts promise makes every run go with the account.
-- Assumes nothing.
use mathlib.Core.Path.{◌≡◌, refl, sym, ap, ◌∙◌, subst}
use mathlib.Core.Logic.{⊎_elim}
use mathlib.Core.List.Memᴰ
use mathlib.Core.List.{List, [], ◌∷◌, map, Memᴰ as Member}
use mathlib.Core.Bool.{true}
use Prim.Native.Nat.{ℕ, ◌+◌}
use native.Mathlib.Omega.{arith}
use lib.Dec.{eqb, ltb}
use lib.ListN.{length}
use borrow.Author.Tests.{eqb-true}
use Rattle.config.specs.Limits.{config_number}
use Rattle.config.proofs.Tests.{by_case}
use Rattle.cache_model.specs.Bodies.{Body}
use Rattle.cache_model.specs.Cache.{Cache, Answer, done, number, says, Outcome}
use Rattle.cache_model.specs.Offer.{refused_size, settled, offered}
use Rattle.cache_model.specs.Calls.{drained, restored, may_put_back, put_back, resized_to, resized, cleared}
use Rattle.cache_model.specs.Queries.{would_accept}
use Rattle.cache_model.specs.History.{Call, Offer, PutBack, Resize, WouldAccept}
use Rattle.cache_model.specs.History.{does}
use Rattle.cache_model.proofs.Limits.{config_legal}
use Rattle.cache_model.proofs.Calls.{limited, held_within}
use Rattle.cache_model.proofs.Numbers.{total_renumbered, does_renumbered}
use Rattle.cache_model.proofs.Acceptance.{yes_binds_lem}
use Rattle.history.specs.Account.{Opening, opening_number, Event, call, refused_opening, History, Account, begun}
use Rattle.history.specs.Account.{next, answer_to, account_after, answers_to, account_of, event_answers, answers_of}
use Rattle.history.specs.Claim.{unnumbered, OwnLengths, Memory, Promised, EventPromised, Linked, Run}
use Rattle.history.specs.Claim.{Accounted, Fates, EveryRunAccounted}
use Rattle.history.proofs.Balance.{Balanced, begun_balanced, all_balanced}
use Rattle.history.proofs.Order.{InOrder, begun_in_order, all_in_order}
use Rattle.history.proofs.Answers.{below28, config_number_small, Told, all_told}
use Rattle.history.proofs.Fates.{all_fates}

abbrev LegalIn : Opening → Cache → Type 0
LegalIn own c = config_number c.limits own.bytes own.words ≡ 0

-- a resize takes only limits that are legal for the areas, and no other call changes them
call_legal : (own : Opening) (k : ℕ) (x : Call) (c : Cache) → OwnLengths own x → LegalIn own c
    → LegalIn own (does k x c).cache
unfolding does offered refused_size settled drained put_back restored resized resized_to cleared
call_legal own k (Offer i bytes now) c o e =
    by_case (λ (r : Outcome). LegalIn own r.cache) (ltb c.limits.max_entry_size_bytes (length bytes))
    (λ _. e)
    (λ _. e)
call_legal own k (PutBack i n) c o e =
    let Kept : Outcome → Type 0 = λ r. LegalIn own r.cache in
    by_case Kept (eqb n 0) (λ _. e) (λ _. by_case Kept (may_put_back i n c) (λ _. e) (λ _. e))
call_legal own k (Resize l bytes words) c o e =
    let n = config_number l bytes words in
    by_case (λ (r : Outcome). LegalIn own r.cache) (eqb n 0)
    (λ f. rw (← o.0, ← o.1) (eqb-true n 0 f))
    (λ _. e)
call_legal own k x c o e = e

module _ (m : Memory) where
  -- the areas hold the account's cache
  record Follows (own : Opening) (s : m.State) (a : Account) : Type 0 where
    well_formed : m.WellFormed s
    reads : m.read s ≡ unnumbered a.cache
    legal : LegalIn own a.cache

  call_follows : (x : Call) {s s' : m.State} {r : Answer} {own : Opening} {a : Account} → OwnLengths own x
      → Promised m x s s' r → Follows own s a
      → Follows own s' (next (call x) a) × (r ≡ answer_to (call x) a)
  unfolding next answer_to
  call_follows x {own = own} {a = a} o p f =
      let same = does_renumbered (λ _. 0) a.offers x a.cache in (
        record {
          well_formed = p.keeps f.well_formed;
          reads = p.reads f.well_formed ∙ ap (λ (c : Cache). (does 0 x c).cache) f.reads
              ∙ ap (λ (d : Outcome). d.cache) same;
          legal = call_legal own a.offers x a.cache o f.legal;
        },
        p.answers f.well_formed ∙ ap (λ (c : Cache). (does 0 x c).answer) f.reads
            ∙ ap (λ (d : Outcome). d.answer) same,
      )

  event_follows : (e : Event) {s s' : m.State} {r : Answer} {own : Opening} {a : Account}
      → EventPromised m own e s s' r → Follows own s a
      → Follows own s' (next e a) × (r ≡ answer_to e a)
  unfolding next answer_to
  event_follows (call x) p f = call_follows x p.0 p.1 f
  event_follows (refused_opening o) {own = own} {a = a} p f =
      let refusal = p.1.refused p.0 in
      (subst (λ (t : m.State). Follows own t a) (sym refusal.1) f, refusal.0)

  all_follow : {own : Opening} {es : List Event} {s s' : m.State} {rs : List Answer} (a : Account)
      → Linked m own es s rs s' → Follows own s a
      → Follows own s' (account_after es a) × (rs ≡ answers_to es a)
  unfolding account_after answers_to
  all_follow a Linked.none f = (f, refl)
  all_follow a (Linked.next {e = e} p l) f =
      let first = event_follows e p f in
      let rest = all_follow (next e a) l first.0 in
      (rest.0, cc (first.1, rest.1))

  refused_openings : {own : Opening} (os : List Opening) {s s' : m.State} {rs : List Answer}
      → Linked m own (map refused_opening os) s rs s' → rs ≡ map (λ o. number (opening_number o)) os
  refused_openings [] Linked.none = refl
  refused_openings (o ∷ os) (Linked.next p l) = cc ((p.1.refused p.0).0, refused_openings os l)

  refusals_not28 : (os : List Opening) → Member (number 28) (map (λ o. number (opening_number o)) os) → ⊥
  refusals_not28 [] k = Memᴰ.not-nil k
  refusals_not28 (o ∷ os) k =
      let small = config_number_small o.limits o.bytes o.words in
      let other = below28 (number (opening_number o)) (omega arith) in
      ⊎_elim (λ e. other (sym e)) (refusals_not28 os) (Memᴰ.cases_cons k)

  module _ (h : History) (run : Run m h) where
    abbrev start : Account
    start = begun h.opening.limits

    abbrev end : Account
    end = account_of h

    followed : Follows h.opening run.last end × (run.answers ≡ event_answers h)
    followed =
        let promised = run.opening.opens run.succeeds in
        all_follow start run.events
        (record { well_formed = promised.1; reads = promised.2; legal = run.succeeds })

    start_in_order : InOrder start
    start_in_order =
        let o = h.opening in
        begun_in_order o.limits (config_legal o.limits o.bytes o.words run.succeeds)

    end_in_order : InOrder end
    end_in_order = all_in_order h.events start start_in_order

    told : Told h.events start
    told = all_told h.events start start_in_order

    balanced : Balanced end
    balanced = all_balanced h.events start (begun_balanced h.opening.limits)

    fates : Fates h.events run.answers end
    fates =
        rw followed.1
        (all_fates h.events (event_answers h) end balanced end_in_order told.accepted told.refusals)

    never28 : Member (number 28) (answers_of h) → ⊥
    never28 k =
        ⊎_elim (refusals_not28 h.refused)
        (λ n. ⊎_elim (λ e. below28 done (omega arith) (sym e)) told.never28 (Memᴰ.cases_cons n))
        (Memᴰ.append_cases (map (λ o. number (opening_number o)) h.refused) k)

    yes_accepted : (i now : ℕ) (bytes : List ℕ) {s s' : m.State} {r : Answer}
        → Promised m (WouldAccept i (length bytes) now) run.last s (says true)
        → Promised m (Offer i bytes now) s s' r → r ≡ done
    unfolding next answer_to does
    yes_accepted i now bytes p q =
        let asked = call_follows (WouldAccept i (length bytes) now) tt p followed.0 in
        let offer = call_follows (Offer i bytes now) tt q asked.0 in
        let b : Body = record { number = end.offers + 0; bytes = bytes; clock = now } in
        let yes : would_accept i (length bytes) now end.cache ≡ true = cc asked.1 in
        offer.1 ∙ yes_binds_lem end.cache i (length bytes) now (limited end_in_order) yes b refl refl

    accounted : Accounted m h run
    accounted =
        let reads = followed.0.reads in
        let held = held_within end.cache end_in_order in
        let opened = (run.opening.opens run.succeeds).0 in
        record {
          answers = cc (refused_openings h.refused run.refused, opened, followed.1);
          never28 = never28;
          well_formed = followed.0.well_formed;
          reads = reads;
          legal = rw reads followed.0.legal;
          total = rw reads (omega (arith, held.room, total_renumbered (λ _. 0) end.cache.held));
          fates = fates;
          cached = λ few.
              ap (λ (c : Cache). c.cached) reads
              ∙ omega (arith, few, balanced.cached, balanced.offers, told.offers);
          dropped = λ few.
              ap (λ (c : Cache). c.dropped) reads
              ∙ omega (arith, few, balanced.dropped, balanced.offers, told.offers, fates.counted, fates.units);
          yes_binds = yes_accepted;
        }

  pub every_run_accounted : EveryRunAccounted m
  every_run_accounted h run = accounted h run
