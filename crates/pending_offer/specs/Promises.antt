-- What an offer promises.
use Rattle.std.specs.Prelude.{Result, Ok, Err, ⊤}
use Rattle.std.specs.Prelude.{◌≡◌, ◌≤◌, List, ℕ, length, set}
use Rattle.table.specs.Layout.{limits_of, dropped_word}
use Rattle.cache_model.specs.Bodies.{Body}
use Rattle.cache_model.specs.Cache.{Cache, Answer, done, number, raised}
use Rattle.cache_model.specs.Offer.{offered}
use Rattle.pending_flows.specs.View.{Areas, areas_of}
use Rattle.pending_flows.specs.declared.header.Header.{Header}
use Rattle.pending_flows.specs.Header.{HoldsCache, dropped_at}
use Rattle.pending_calls.specs.Promises.{Performs, Does, UntouchedPast}
use Rattle.pending_offer.specs.declared.offering.OfferRefusal.{OfferRefusal}
use Rattle.pending_offer.specs.declared.offering.OfferRefusal.TheVariants as Refusal

-- document 01's number of each refusal
abbrev pub offer_number : OfferRefusal → ℕ
offer_number Refusal.TooLong = 6
offer_number Refusal.TemplateFull = 20
offer_number Refusal.Damaged = 28

abbrev pub offer_answer : Result ⊤ OfferRefusal → Answer
offer_answer (Ok tt) = done
offer_answer (Err n) = number (offer_number n)

-- the body that is offered; offers are not numbered here
abbrev pub body_of : List ℕ → ℕ → Body
body_of body now = record { number = 0; bytes = body; clock = now }

-- The areas, with so many bytes, hold a well-formed cache with this header, and the body is not too long for it.
pub record FitsEntry (h : Header) (body w : List ℕ) (bytes : ℕ) : Type 0 where
  pub cache : HoldsCache h w bytes
  pub short : length body ≤ h.limits.max_entry_size_bytes

-- the areas with one more in the drop counter's word, which stops at 2^64 - 1
abbrev pub one_dropped : Areas → Areas
one_dropped a = areas_of (set a.words dropped_at (raised (dropped_word a.words) 1)) a.bytes

-- "Number 6 adds one to `pending_dropped`, nothing else."
pub record Offers (id : ℕ) (body : List ℕ) (now : ℕ) (a : Areas) (r : Result ⊤ OfferRefusal) (a' : Areas) : Type 0 where
  pub performs : Performs (offered id (body_of body now)) a (offer_answer r) a'
  pub too_long : offer_answer r ≡ number 6 → a' ≡ one_dropped a
  pub frame : UntouchedPast (limits_of a.words) a a'

-- what an offer does to a well-formed cache c
pub record DoesOffer (id : ℕ) (body : List ℕ) (now : ℕ) (c : Cache) (a : Areas) (r : Result ⊤ OfferRefusal) (a' : Areas)
    : Type 0 where
  pub does : Does (offered id (body_of body now)) c a (offer_answer r) a'
  pub too_long : offer_answer r ≡ number 6 → a' ≡ one_dropped a
