-- Lists of calls as the code runs them: each step is related by the record that the function's `ensures` cites.
use Rattle.std.specs.Prelude.{Result, ⊤}
use Rattle.pending_handed_out.specs.declared.BodyPlace.{BodyPlace}
use Rattle.pending_queries.specs.declared.CacheFigures.{CacheFigures}
use Rattle.table.specs.declared.Damaged.{Damaged}
use Rattle.pending_offer.specs.declared.offering.OfferRefusal.{OfferRefusal}
use Rattle.pending_handed_out.specs.declared.PlaceRefusal.{PlaceRefusal}
use Rattle.pending_restore.specs.declared.PutBackRefusal.{PutBackRefusal}
use Rattle.pending_resize.specs.declared.resizing.ResizeRefusal.{ResizeRefusal}
use Rattle.std.specs.Prelude.{Ok, Err}
use Rattle.std.specs.Prelude.{◌≡◌, Bool, List, [], ◌∷◌, map, ℕ, length}
use Rattle.config.specs.declared.PendingFlowsConfig.{PendingFlowsConfig}
use Rattle.config.specs.declared.ConfigRefusal.{ConfigRefusal}
use Rattle.cache_model.specs.Cache.{Answer, says, shows, tells}
use Rattle.cache_model.specs.Queries.{would_accept, figures}
use Rattle.cache_model.specs.History.{Offer, Drain, PutBack, Resize, Clear, WouldAccept, ReadHandedOut}
use Rattle.cache_model.specs.History.{PlaceHandedOut, TakeFigures}
use Rattle.history.specs.Account.{Opening, Event, call, refused_opening, History}
use Rattle.pending_flows.specs.View.{Areas}
use Rattle.pending_flows.specs.Opening.{Opens, opening_answer}
use Rattle.pending_queries.specs.Queries.{Asks, accept_answer, figures_answer}
use Rattle.pending_handed_out.specs.HandedOut.{PlacesHandedOut, ReadsHandedOut, place_answer}
use Rattle.pending_calls.specs.Promises.{Clears, clear_answer}
use Rattle.pending_drain.specs.Promises.{Drains, drain_answer}
use Rattle.pending_restore.specs.Promises.{PutsBack, put_back_answer}
use Rattle.pending_offer.specs.Promises.{Offers, offer_answer}
use Rattle.pending_resize.specs.Promises.{Resizes, resize_answer}

-- an opening with these limits in these areas: the account is given their lengths, and nothing of their content
abbrev pub opening_of : PendingFlowsConfig → Areas → Opening
opening_of limits a = record { limits = limits; bytes = length a.bytes; words = length a.words }

-- What a function promised: a are the areas before the call and a' after it, r is what it returned. The event is the
-- call with its arguments, and the answer is document 01's for r.
pub data Step (a a' : Areas) : Event → Answer → Type 0 where
  offers : {i : ℕ} {bytes : List ℕ} {now : ℕ} (r : Result ⊤ OfferRefusal) → Offers i bytes now a r a'
      → Step a a' (call (Offer i bytes now)) (offer_answer r)
  drains : {i now : ℕ} (r : Result ℕ Damaged) → Drains i now a r a' → Step a a' (call (Drain i now)) (drain_answer r)
  puts_back : {i n : ℕ} (r : Result ⊤ PutBackRefusal) → PutsBack i n a r a' → Step a a' (call (PutBack i n)) (put_back_answer r)
  -- beside the limits, the account is given the lengths of the areas
  resizes : {l : PendingFlowsConfig} (r : Result ℕ ResizeRefusal) → Resizes l a r a'
      → Step a a' (call (Resize l (length a.bytes) (length a.words))) (resize_answer r)
  clears : (r : Result ⊤ Damaged) → Clears a r a' → Step a a' (call Clear) (clear_answer r)
  asks : {i len now : ℕ} (r : Result Bool Damaged) → Asks (λ c. says (would_accept i len now c)) a (accept_answer r) a'
      → Step a a' (call (WouldAccept i len now)) (accept_answer r)
  reads : {k : ℕ} (bs : List ℕ) → ReadsHandedOut a k bs a' → Step a a' (call (ReadHandedOut k)) (shows bs)
  places : {k : ℕ} (r : Result BodyPlace PlaceRefusal) → PlacesHandedOut a k r a' → Step a a' (call (PlaceHandedOut k)) (place_answer r)
  takes_figures : (r : Result CacheFigures Damaged) → Asks (λ c. tells (figures c)) a (figures_answer r) a'
      → Step a a' (call TakeFigures) (figures_answer r)
  -- `open` was called and refused the limits
  refuses_opening : {l : PendingFlowsConfig} (n : ConfigRefusal) → Opens l a (Err n) a'
      → Step a a' (refused_opening (opening_of l a)) (opening_answer (Err n))

-- Steps one after the other. Nobody else writes the areas: each step finds them as the one before it left them.
pub data Steps : List Event → Areas → List Answer → Areas → Type 0 where
  none : {a : Areas} → Steps [] a [] a
  next : {e : Event} {es : List Event} {a a' a'' : Areas} {r : Answer} {rs : List Answer}
      → Step a a' e r → Steps es a' rs a'' → Steps (e ∷ es) a (r ∷ rs) a''

-- a history as the code ran it
pub record Ran (h : History) : Type 0 where
  pub lent : Areas  -- the areas as they were lent, with any content
  pub found : Areas  -- as the successful opening found them
  pub empty : Areas  -- as it left them
  pub last : Areas  -- after all events
  pub refusals : List Answer  -- what the openings before it answered
  pub answers : List Answer  -- what the events answered
  pub refused : Steps (map refused_opening h.refused) lent refusals found
  pub own : h.opening ≡ opening_of h.opening.limits found  -- the account is given the lengths of these areas
  pub opens : Opens h.opening.limits found (Ok tt) empty
  pub events : Steps h.events empty answers last
