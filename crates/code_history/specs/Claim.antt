-- What is claimed of every run of the code (demand 3 of document 01).
use Rattle.std.specs.Prelude.{Result, Ok, ⊤}
use Rattle.pending_offer.specs.declared.offering.OfferRefusal.{OfferRefusal}
use Rattle.std.specs.Prelude.{◌≡◌, true, ℕ, ◌≤◌, ◌<◌, length, take, drop}
use mathlib.Core.List.{List, ◌∷◌, ◌++◌, Memᴰ as Member}
use Rattle.std.proofs.Math.Option.{some}
use Rattle.config.specs.Limits.{config_number}
use Rattle.table.specs.Layout.{cached_word, dropped_word, total_word}
use Rattle.cache_model.specs.Bodies.{byte_total}
use Rattle.cache_model.specs.Cache.{counter_most, done, number, says}
use Rattle.cache_model.specs.Queries.{would_accept, handed_out}
use Rattle.history.specs.Account.{History, account_of, answers_of}
use Rattle.history.specs.Claim.{unnumbered, offers_in, Fates}
use Rattle.pending_flows.specs.View.{Areas, view}
use Rattle.pending_queries.specs.Queries.{Asks, accept_answer}
use Rattle.pending_handed_out.specs.declared.BodyPlace.{BodyPlace}
use Rattle.pending_handed_out.specs.HandedOut.{PlacesHandedOut}
use Rattle.pending_offer.specs.Promises.{Offers}
use Rattle.code_history.specs.Runs.{opening_of, Ran}

-- `account_of h` is fed the calls' arguments and the areas' lengths, neither contents nor answers.
pub record CodeAccounted (h : History) (run : Ran h) : Type 0 where
  -- every answer is the account's (a body's place is no part of it), and none is 28
  pub answers : run.refusals ++ (done ∷ run.answers) ≡ answers_of h
  pub never28 : Member (number 28) (answers_of h) → ⊥
  -- the areas hold the account's cache: the limits with the TTL, both counters, the held templates by recency with
  -- their bodies in arrival order, byte for byte, and the chance of a put-back
  pub holds : view run.last ≡ some (unnumbered (account_of h).cache)
  -- the stored byte total is the sum of the held lengths, and at most the configured maximum
  pub total : total_word run.last.words ≡ byte_total (account_of h).cache.held
  pub within : byte_total (account_of h).cache.held ≤ (account_of h).cache.limits.max_total_bytes
  -- the areas are as long as they were when it opened, and the limits are legal for them
  pub own : h.opening ≡ opening_of h.opening.limits run.last
  pub legal : config_number (account_of h).cache.limits h.opening.bytes h.opening.words ≡ 0
  -- each accepted body has exactly one fate: held, handed out, dropped or cleared; each drop is of a body, or of an
  -- offer that was refused with 6, 20 or 21
  pub fates : Fates h.events run.answers (account_of h)
  -- with fewer than 2^64 - 1 offers, `pending_cached` counts the accepted bodies
  pub cached : offers_in h.events < counter_most → cached_word run.last.words ≡ length (account_of h).accepted
  -- and `pending_dropped` counts the drops: the place of each in the list is its own unit
  pub dropped : offers_in h.events < counter_most → dropped_word run.last.words ≡ length (account_of h).drops
  -- where `would_accept` then says yes, an offer of any body of that id and length at that clock reading is accepted
  pub yes_binds : (i now : ℕ) (bytes : List ℕ) {a a' : Areas} {r : Result ⊤ OfferRefusal}
      → Asks (λ c. says (would_accept i (length bytes) now c)) run.last (accept_answer (Ok true)) a
      → Offers i bytes now a r a' → r ≡ Ok tt
  -- where a place is then answered, the byte area holds there the account's handed-out body of that number
  pub placed : (k : ℕ) (p : BodyPlace) {a : Areas} → PlacesHandedOut run.last k (Ok p) a
      → take p.len (drop p.place run.last.bytes) ≡ (handed_out k (account_of h).cache).bytes
