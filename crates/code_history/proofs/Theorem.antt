-- Demand 3 of document 01: every run of the code goes with the history account.
-- Assumes nothing.
use Rattle.std.proofs.Common.{Result, Ok, Err}
use Rattle.std.specs.Prelude.{⊤}
use Rattle.pending_offer.specs.declared.offering.OfferRefusal.{OfferRefusal}
use mathlib.Core.Path.{◌≡◌, refl, sym, ap, ◌∙◌, subst}
use mathlib.Core.List.{List, [], ◌∷◌, map}
use mathlib.Core.Bool.{true}
use mathlib.Core.Option.{some}
use Prim.Native.Nat.{ℕ, ◌≤◌}
use native.Mathlib.Omega.{arith}
use lib.ListN.{length}
use Rattle.config.specs.declared.PendingFlowsConfig.{PendingFlowsConfig}
use Rattle.config.specs.Limits.{config_number}
use Rattle.cache_model.specs.Bodies.{byte_total}
use Rattle.cache_model.specs.Cache.{Cache, Answer, done, says}
use Rattle.cache_model.specs.Queries.{would_accept}
use Rattle.cache_model.specs.History.{does}
use Rattle.cache_model.proofs.Numbers.{total_renumbered}
use Rattle.history.specs.Account.{Opening, opening_number, Event, refused_opening, History, account_of}
use Rattle.history.specs.Claim.{unnumbered, OpeningPromised, Linked, Run, Accounted}
use Rattle.history.proofs.Theorem.{every_run_accounted}
use Rattle.pending_flows.specs.View.{Areas, view}
use Rattle.pending_queries.specs.Queries.{Asks}
use Rattle.pending_offer.specs.Promises.{Offers, offer_answer}
use Rattle.code_history.specs.Runs.{Step, Steps, Ran}
use Rattle.code_history.specs.Claim.{CodeAccounted}
use Rattle.code_history.proofs.Views.{areas, view_read, total_read, promised, asked_promised}
use Rattle.code_history.proofs.Views.{handed_out_bytes}
use Rattle.code_history.proofs.Steps.{Own, opening_number_lem, opening_promised, refusal_not_zero, step_lengths}
use Rattle.code_history.proofs.Steps.{same_lengths, step_promised}

-- ---- chains of steps

steps_linked : {o : Opening} {es : List Event} {a a' : Areas} {rs : List Answer} → Steps es a rs a' → Own o a
    → Linked areas o es a rs a' × Own o a'
steps_linked Steps.none own = (Linked.none, own)
steps_linked {o} (Steps.next {a = a} {a' = a'} s l) own =
    let rest = steps_linked l (step_lengths o a a' s own) in
    (Linked.next (step_promised o a a' s own) rest.0, rest.1)

refused_unchanged : {o : Opening} {a a' : Areas} {r : Answer} → Step a a' (refused_opening o) r → a' ≡ a
refused_unchanged (Step.refuses_opening n p) = p.refused (refusal_not_zero n)

-- openings that are refused change nothing
refusals_unchanged : (os : List Opening) {a a' : Areas} {rs : List Answer} → Steps (map refused_opening os) a rs a'
    → a' ≡ a
refusals_unchanged [] Steps.none = refl
refusals_unchanged (o ∷ os) (Steps.next s l) = refusals_unchanged os l ∙ refused_unchanged s

cached_only : (r : Result ⊤ OfferRefusal) → offer_answer r ≡ done → r ≡ Ok tt
cached_only (Ok tt) e = refl
cached_only (Err n) e = cc

-- ---- the theorem

module _ (h : History) (run : Ran h) where
  abbrev own_limits : PendingFlowsConfig
  own_limits = h.opening.limits

  own_lent : Own h.opening run.lent
  own_lent = rw (← refusals_unchanged h.refused run.refused) run.own

  own_empty : Own h.opening run.empty
  own_empty =
      same_lengths h.opening run.found run.empty (ap length run.opens.bytes) run.opens.long run.own

  linked : Linked areas h.opening h.events run.empty run.answers run.last
      × Own h.opening run.last
  linked = steps_linked run.events own_empty

  -- the run as the history theorem takes it
  abbrev as_run : Run areas h
  as_run = record {
    lent = run.lent;
    found = run.found;
    empty = run.empty;
    last = run.last;
    refusals = run.refusals;
    opened = done;
    answers = run.answers;
    refused = (steps_linked run.refused own_lent).0;
    succeeds = ap opening_number run.own ∙ sym (opening_number_lem own_limits run.found run.opens);
    opening = subst (λ (o : Opening). OpeningPromised areas o run.found run.empty done)
        (sym run.own) (opening_promised own_limits run.found run.opens);
    events = linked.0;
  }

  abbrev end : Cache
  end = (account_of h).cache

  accounted : Accounted areas h as_run
  accounted = every_run_accounted areas h as_run

  held_total : byte_total (unnumbered end).held ≡ byte_total end.held
  held_total = total_renumbered (λ _. 0) end.held

  read_within : byte_total (unnumbered end).held ≤ end.limits.max_total_bytes
  read_within =
      subst (λ (c : Cache). byte_total c.held ≤ c.limits.max_total_bytes) accounted.reads accounted.total

  holds : view run.last ≡ some (unnumbered end)
  holds = view_read run.last accounted.well_formed ∙ ap some accounted.reads

  yes_binds_lem : (i now : ℕ) (bytes : List ℕ) {a a' : Areas} {r : Result ⊤ OfferRefusal}
      → Asks (λ c. says (would_accept i (length bytes) now c)) run.last (says true) a → Offers i bytes now a r a'
      → r ≡ Ok tt
  unfolding does
  yes_binds_lem i now bytes {r = r} p q =
      cached_only r
      (accounted.yes_binds i now bytes
      (asked_promised (λ c. refl) (λ ok. p.answer ∙ rw (view_read run.last ok)) p.unchanged)
      (promised q.performs.answer q.performs.holds))

  code_accounted : CodeAccounted h run
  code_accounted = record {
    answers = accounted.answers;
    never28 = accounted.never28;
    holds = holds;
    total = total_read run.last accounted.well_formed
        ∙ ap (λ (c : Cache). byte_total c.held) accounted.reads ∙ held_total;
    within = omega (arith, read_within, held_total);
    own = linked.1;
    legal = ap (λ (c : Cache). config_number c.limits h.opening.bytes h.opening.words)
        (sym accounted.reads) ∙ accounted.legal;
    fates = accounted.fates;
    cached = accounted.cached;
    dropped = accounted.dropped;
    yes_binds = yes_binds_lem;
    placed = λ k p q. q.holds p (unnumbered end) refl holds ∙ handed_out_bytes k end;
  }

pub every_run_of_the_code_accounted : (h : History) (run : Ran h) → CodeAccounted h run
every_run_of_the_code_accounted h run = code_accounted h run
