-- A case against each wrong reading that document 01 lists, and one for each call that these leave out. Proved by
-- computation.
use Rattle.std.specs.Prelude.{Some, None}
use Rattle.std.specs.Prelude.{◌≡◌, refl, List, [], ◌∷◌, ◌++◌, map, ℕ}
use Rattle.std.proofs.Math.Option.{none}
use Rattle.config.specs.declared.PendingFlowsConfig.{PendingFlowsConfig}
use Rattle.config.specs.Limits.{config_number, limits_number, areas_hold}
use Rattle.cache_model.specs.Removal.{evicted, evictions, pruned, capped}
use Rattle.cache_model.specs.Offer.{step2, step3, step4, step5, add_newest, step4or5, after_step3, after_step2}
use Rattle.cache_model.specs.Offer.{steps2to5}
use Rattle.cache_model.specs.Offer.{appended, refused_size, settled, offered}
use Rattle.cache_model.specs.Queries.{would_accept, read_handed_out, place_handed_out, figures}
use Rattle.cache_model.specs.Calls.{drained, restored, put_back, shrunk, resized_to, resized, cleared}
use Rattle.cache_model.specs.History.{Call, Drain, PutBack, Resize, Clear, WouldAccept, ReadHandedOut}
use Rattle.cache_model.specs.History.{PlaceHandedOut, TakeFigures, does, after, answers}
use Rattle.cache_model.specs.Reply.{opening, replies}
use Rattle.cache_model.specs.Told.{told, limits_of, offer_of, answers_to, held_after}

record Row : Type 0 where
  limits : PendingFlowsConfig
  calls : List Call
  answered : List (List ℕ)
  held : List (List ℕ)

-- not pruning before step 2, neither this id nor all: the expired body of 300 does not save 301 from eviction
abbrev evict_before_prune : Row
evict_before_prune = record {
  limits = limits_of 2 2 10 10 (Some 100);
  calls = offer_of 301 4 50 ∷ offer_of 300 6 1 ∷ offer_of 300 5 101 ∷ [];
  answered = (0 ∷ []) ∷ (0 ∷ []) ∷ (0 ∷ []) ∷ [];
  held = (300 ∷ 5 ∷ []) ∷ [];
}

-- not promoting on 20: 300 is still the least recent, and goes
abbrev no_promotion : Row
no_promotion = record {
  limits = limits_of 2 1 10 20 None;
  calls = offer_of 300 1 0 ∷ offer_of 301 1 1 ∷ offer_of 300 1 2 ∷ offer_of 302 1 3 ∷ [];
  answered = (0 ∷ []) ∷ (0 ∷ []) ∷ (20 ∷ []) ∷ (0 ∷ []) ∷ [];
  held = (301 ∷ 1 ∷ []) ∷ (302 ∷ 1 ∷ []) ∷ [];
}

-- a body whose age equals the TTL is expired: it leaves its place to the next
abbrev expired_at_ttl : Row
expired_at_ttl = record {
  limits = limits_of 1 1 10 10 (Some 100);
  calls = offer_of 300 1 0 ∷ WouldAccept 300 2 99 ∷ WouldAccept 300 2 100 ∷ offer_of 300 2 100 ∷ [];
  answered = (0 ∷ []) ∷ (0 ∷ 0 ∷ []) ∷ (0 ∷ 1 ∷ []) ∷ (0 ∷ []) ∷ [];
  held = (300 ∷ 2 ∷ []) ∷ [];
}

-- a "no" does not bind: the template goes by its bytes, and the offer succeeds
abbrev no_is_no_bar : Row
no_is_no_bar = record {
  limits = limits_of 1 1 10 10 None;
  calls = offer_of 300 6 0 ∷ WouldAccept 300 5 1 ∷ offer_of 300 5 1 ∷ [];
  answered = (0 ∷ []) ∷ (0 ∷ 0 ∷ []) ∷ (0 ∷ []) ∷ [];
  held = (300 ∷ 5 ∷ []) ∷ [];
}

-- a put-back takes the last bodies, once; there is no body 3 of three
abbrev last_back : Row
last_back = record {
  limits = limits_of 2 3 10 20 None;
  calls =
      offer_of 300 1 0 ∷ offer_of 300 2 1 ∷ offer_of 300 3 2 ∷ Drain 300 3 ∷ ReadHandedOut 1 ∷ PlaceHandedOut 1
      ∷ ReadHandedOut 3 ∷ PlaceHandedOut 3 ∷ PutBack 301 1 ∷ PutBack 300 4 ∷ PutBack 300 0 ∷ PutBack 300 2
      ∷ PutBack 300 1 ∷ [];
  answered =
      (0 ∷ []) ∷ (0 ∷ []) ∷ (0 ∷ []) ∷ (0 ∷ 3 ∷ []) ∷ (0 ∷ 0 ∷ 1 ∷ []) ∷ (0 ∷ 2 ∷ [])
      ∷ (0 ∷ []) ∷ (27 ∷ []) ∷ (25 ∷ []) ∷ (25 ∷ []) ∷ (0 ∷ []) ∷ (0 ∷ [])
      ∷ (25 ∷ []) ∷ [];
  held = (300 ∷ 2 ∷ 3 ∷ []) ∷ [];
}

-- a resize drops by size before it drops by the cap; refused limits change nothing
abbrev size_before_cap : Row
size_before_cap = record {
  limits = limits_of 2 2 2 4 None;
  calls =
      offer_of 300 1 0 ∷ offer_of 300 2 1 ∷ Resize (limits_of 2 2 2 1 None) 4 100
      ∷ Resize (limits_of 2 1 1 4 None) 4 100 ∷ [];
  answered = (0 ∷ []) ∷ (0 ∷ []) ∷ (4 ∷ []) ∷ (0 ∷ 1 ∷ []) ∷ [];
  held = (300 ∷ 1 ∷ []) ∷ [];
}

-- a body over the entry limit is dropped and nothing else changes; clearing leaves the counters
abbrev cleared_after6 : Row
cleared_after6 = record {
  limits = limits_of 1 1 2 4 None;
  calls =
      offer_of 300 1 0 ∷ Drain 300 1 ∷ offer_of 300 3 2 ∷ TakeFigures ∷ offer_of 300 2 3 ∷ Clear ∷ TakeFigures ∷ [];
  answered =
      (0 ∷ []) ∷ (0 ∷ 1 ∷ []) ∷ (6 ∷ []) ∷ (0 ∷ 0 ∷ 0 ∷ 0 ∷ 1 ∷ 1 ∷ 1 ∷ []) ∷ (0 ∷ []) ∷ (0 ∷ [])
      ∷ (0 ∷ 0 ∷ 0 ∷ 0 ∷ 2 ∷ 1 ∷ 0 ∷ []) ∷ [];
  held = [];
}

abbrev rows : List Row
rows =
    evict_before_prune ∷ no_promotion ∷ expired_at_ttl ∷ no_is_no_bar ∷ last_back ∷ size_before_cap ∷ cleared_after6 ∷ []

-- the answers, then what is held
abbrev computed : Row → List (List ℕ)
computed r = answers_to r.limits r.calls ++ held_after r.limits r.calls

abbrev expected : Row → List (List ℕ)
expected r = r.answered ++ r.held

pub readings_right : map computed rows ≡ map expected rows
unfolding config_number limits_number areas_hold evicted evictions pruned capped step2 step3 step4 step5 add_newest
    step4or5 after_step3 after_step2 steps2to5
    appended refused_size settled offered drained restored put_back shrunk resized_to resized cleared would_accept
    read_handed_out place_handed_out figures does after answers
readings_right = refl

-- every call on damaged areas answers 28 (a reading by the call beside it), before all else: the offer is too long, the
-- new limits are refused, there is no chance, a put-back of 0 would succeed
abbrev every_call : List Call
every_call =
    offer_of 300 3 0 ∷ Drain 300 0 ∷ PutBack 300 1 ∷ PutBack 300 0 ∷ Resize (limits_of 0 1 1 1 None) 4 100 ∷ Clear
    ∷ WouldAccept 300 1 0 ∷ ReadHandedOut 0 ∷ PlaceHandedOut 0 ∷ TakeFigures ∷ []

pub damaged_first : map told (replies every_call none) ≡ map (λ x. 28 ∷ []) every_call
unfolding replies
damaged_first = refl

-- an opening is refused with the first of its numbers, damaged areas or not, and else leaves an empty cache
abbrev openings : List (List ℕ)
openings =
    map
    (λ (l : PendingFlowsConfig). told (opening l 4 100 none).answer)
    (limits_of 0 0 0 0 None ∷ limits_of 1 0 0 0 None ∷ limits_of 1 1 0 0 None ∷ limits_of 1 1 65532 0 None
    ∷ limits_of 1 1 5 4 None ∷ limits_of 1 1 5 5 None ∷ limits_of 8 1 4 4 None ∷ limits_of 3 1 4 4 None ∷ [])

pub openings_numbered : openings
    ≡ (1 ∷ []) ∷ (2 ∷ []) ∷ (3 ∷ []) ∷ (3 ∷ []) ∷ (4 ∷ []) ∷ (5 ∷ []) ∷ (5 ∷ []) ∷ (0 ∷ []) ∷ []
unfolding config_number limits_number areas_hold opening
openings_numbered = refl
