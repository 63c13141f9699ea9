-- The history account of document 01. It is fed the calls' arguments and the lengths of the cache's own areas, neither
-- their content nor any answer. It keeps the cache by the rules of cache_model, and what became of each accepted body.
use Rattle.std.specs.Prelude.{Option, Some, None, List, [], ◌∷◌, ◌++◌, map, cond, ℕ, ◌+◌, ◌-◌, eqb, ltb, length, take}
use Rattle.std.specs.List.{filter_map, fold}
use Rattle.config.specs.declared.PendingFlowsConfig.{PendingFlowsConfig}
use Rattle.config.specs.Limits.{config_number}
use Rattle.cache_model.specs.Bodies.{Body, size, keep, all_bodies, bodies_of, expired}
use Rattle.cache_model.specs.Cache.{Cache, Answer, done, number}
use Rattle.cache_model.specs.Offer.{Verdict, accepted, refused, Offered, accepted_bodies, steps2to5}
use Rattle.cache_model.specs.Calls.{opened, may_put_back, shrunk}
use Rattle.cache_model.specs.History.{Call, Offer, Drain, PutBack, Resize, Clear, does}

-- ---- histories

-- an opening with these limits, in areas of these lengths
pub record Opening : Type 0 where
  pub limits : PendingFlowsConfig
  pub bytes : ℕ
  pub words : ℕ

-- 1 to 5 where it is refused, else 0
abbrev pub opening_number : Opening → ℕ
opening_number o = config_number o.limits o.bytes o.words

-- a call, or an opening that is refused and so changes nothing
pub data Event : Type 0 where
  call : Call → Event
  refused_opening : Opening → Event

pub record History : Type 0 where
  pub refused : List Opening  -- openings that were refused: nothing begins with them
  pub opening : Opening  -- the one that succeeded
  pub events : List Event  -- what came then; no other opening succeeded

-- the body that an event offers, if it is an offer: k is the offer's ordinal
-- (a list, since the account appends it to its own; an Option would be turned into one at each use)
abbrev pub offered_by : ℕ → Event → List Body
offered_by k (call (Offer i bytes now)) = record { number = k; bytes = bytes; clock = now } ∷ []
offered_by k e = []

-- ---- the account

-- what takes a unit of `pending_dropped`
pub data Drop : Type 0 where
  body : Body → Drop  -- an accepted body that an offer, drain or resize evicted or dropped
  refused_offer : ℕ → Drop  -- the ordinal of an offer that was refused with 6, 20 or 21

pub record Account : Type 0 where
  pub cache : Cache  -- limits, chance, both counters, held templates; a body's number is its offer's ordinal
  pub offers : ℕ  -- how many offers there were
  pub accepted : List Body  -- in the order of their offers
  pub handed_out_for_good : List Body  -- handed out, and the chance of a put-back is over
  pub drops : List Drop  -- a drop's place here is its unit of `pending_dropped`
  pub cleared : List Body

-- from a successful opening on
abbrev pub begun : PendingFlowsConfig → Account
begun l = record {
  cache = opened l;
  offers = 0;
  accepted = [];
  handed_out_for_good = [];
  drops = [];
  cleared = [];
}

-- what a call adds to the account's lists
pub record Change : Type 0 where
  pub accepted : List Body
  pub handed_out_for_good : List Body
  pub drops : List Drop
  pub cleared : List Body

-- "queries, other refusals: no change"
abbrev pub no_change : Change
no_change = record { accepted = []; handed_out_for_good = []; drops = []; cleared = [] }

-- an offer that is refused with 6 "takes a unit of `pending_dropped`", and does nothing else
abbrev pub size_refusal : Body → Change
size_refusal b = record {
  accepted = [];
  handed_out_for_good = [];
  drops = refused_offer b.number ∷ [];
  cleared = [];
}

-- refused with 20 or 21, it takes one too
abbrev pub refusal_unit : Body → Verdict → List Drop
refusal_unit b accepted = []
refusal_unit b (refused n) = refused_offer b.number ∷ []

-- "not refused, its body is accepted"; what it evicts or drops is dropped; the chance ends
abbrev pub offer_change : Cache → Body → Offered → Change
offer_change c b o = record {
  accepted = accepted_bodies o.verdict b;
  handed_out_for_good = c.chance.bodies;
  drops = map body o.left.removed ++ refusal_unit b o.verdict;
  cleared = [];
}

-- "the last n are held again"; the first ones stay handed out, and the chance ends
abbrev pub put_back_change : ℕ → Cache → Change
put_back_change n c = record {
  accepted = [];
  handed_out_for_good = take (length c.chance.bodies - n) c.chance.bodies;
  drops = [];
  cleared = [];
}

-- bodies that are dropped, bodies that are cleared, and the chance ends
abbrev pub chance_ends : Cache → (dropped cleared : List Body) → Change
chance_ends c dropped cleared = record {
  accepted = [];
  handed_out_for_good = c.chance.bodies;
  drops = map body dropped;
  cleared = cleared;
}

-- the expired bodies are dropped; "the rest are handed out": they are the new chance
abbrev pub drain_change : ℕ → ℕ → Cache → Change
drain_change i now c = chance_ends c (keep (λ b. expired c.limits.ttl now b) (bodies_of i c.held)) []

-- what the new limits evict or drop is dropped
abbrev pub resize_change : PendingFlowsConfig → Cache → Change
resize_change l c = chance_ends c (shrunk l c.held).removed []

-- "the held are cleared"
abbrev pub clear_change : Cache → Change
clear_change c = chance_ends c [] (all_bodies c.held)

-- k is the call's ordinal among the offers, if it is one
unfoldable pub change : ℕ → Call → Cache → Change
change k (Offer i bytes now) c =
    let b : Body = record { number = k; bytes = bytes; clock = now } in
    cond (ltb c.limits.max_entry_size_bytes (size b)) (size_refusal b)
    (offer_change c b (steps2to5 c.limits (expired c.limits.ttl now) i b c.held))
change k (Drain i now) c = drain_change i now c
change k (PutBack i n) c = cond (eqb n 0) no_change (cond (may_put_back i n c) (put_back_change n c) no_change)
change k (Resize l bytes words) c = cond (eqb (config_number l bytes words) 0) (resize_change l c) no_change
change k Clear c = clear_change c
change k query c = no_change

-- the account after an event, and the account's answer
unfoldable pub next : Event → Account → Account
next (call x) a =
    let d = change a.offers x a.cache in
    record {
      cache = (does a.offers x a.cache).cache;
      offers = a.offers + length (offered_by a.offers (call x));
      accepted = a.accepted ++ d.accepted;
      handed_out_for_good = a.handed_out_for_good ++ d.handed_out_for_good;
      drops = a.drops ++ d.drops;
      cleared = a.cleared ++ d.cleared;
    }
next (refused_opening o) a = a

unfoldable pub answer_to : Event → Account → Answer
answer_to (call x) a = (does a.offers x a.cache).answer
answer_to (refused_opening o) a = number (opening_number o)

-- the same of a list of events
unfoldable pub account_after : List Event → Account → Account
account_after es a = fold (λ (b : Account) (e : Event). next e b) a es

unfoldable pub answers_to : List Event → Account → List Answer
answers_to [] a = []
answers_to (e ∷ es) a = answer_to e a ∷ answers_to es (next e a)

-- of a whole history
abbrev pub account_of : History → Account
account_of h = account_after h.events (begun h.opening.limits)

abbrev pub event_answers : History → List Answer
event_answers h = answers_to h.events (begun h.opening.limits)

abbrev pub answers_of : History → List Answer
answers_of h = map (λ o. number (opening_number o)) h.refused ++ (done ∷ event_answers h)

-- ---- the fates of accepted bodies

-- the dropped body, or the ordinal of the refused offer
abbrev pub dropped_body : Drop → Option Body
dropped_body (body b) = Some b
dropped_body (refused_offer k) = None

abbrev pub refused_ordinal : Drop → Option ℕ
refused_ordinal (body b) = None
refused_ordinal (refused_offer k) = Some k

-- all in a list of drops
abbrev pub bodies_in : List Drop → List Body
bodies_in ds = filter_map dropped_body ds

abbrev pub refusals_in : List Drop → List ℕ
refusals_in ds = filter_map refused_ordinal ds

abbrev pub held_bodies : Account → List Body
held_bodies a = all_bodies a.cache.held

-- with those that may still be put back
abbrev pub handed_out_bodies : Account → List Body
handed_out_bodies a = a.handed_out_for_good ++ a.cache.chance.bodies

abbrev pub dropped_bodies : Account → List Body
dropped_bodies a = bodies_in a.drops
