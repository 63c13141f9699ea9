-- A list of calls on a newly opened cache, and what each answers.
use Rattle.std.specs.Prelude.{List, [], ◌∷◌, ℕ}
use Rattle.config.specs.declared.PendingFlowsConfig.{PendingFlowsConfig}
use Rattle.cache_model.specs.Cache.{Cache, Answer, says, tells, Outcome}
use Rattle.cache_model.specs.Offer.{offered}
use Rattle.cache_model.specs.Calls.{drained, put_back, resized, cleared}
use Rattle.cache_model.specs.Queries.{would_accept, read_handed_out, place_handed_out, figures}

-- a call with its arguments
pub data Call : Type 0 where
  Offer : (id : ℕ) (bytes : List ℕ) (now : ℕ) → Call
  Drain : (id now : ℕ) → Call
  PutBack : (id n : ℕ) → Call
  Resize : PendingFlowsConfig → (bytes words : ℕ) → Call
  Clear : Call
  WouldAccept : (id len now : ℕ) → Call
  ReadHandedOut : ℕ → Call
  PlaceHandedOut : ℕ → Call
  TakeFigures : Call

-- what a call does to a cache; the body of an offer is given a number
unfoldable pub does : ℕ → Call → Cache → Outcome
does k (Offer i bs now) c = offered i (record { number = k; bytes = bs; clock = now }) c
does k (Drain i now) c = drained i now c
does k (PutBack i n) c = put_back i n c
does k (Resize l bytes words) c = resized l bytes words c
does k Clear c = cleared c
does k (WouldAccept i n now) c = record { answer = says (would_accept i n now c); cache = c }
does k (ReadHandedOut n) c = record { answer = read_handed_out n c; cache = c }
does k (PlaceHandedOut n) c = record { answer = place_handed_out n c; cache = c }
does k TakeFigures c = record { answer = tells (figures c); cache = c }

-- the cache after a list of calls, and the answers
unfoldable pub after : List Call → Cache → Cache
after [] c = c
after (x ∷ xs) c = after xs (does 0 x c).cache

unfoldable pub answers : List Call → Cache → List Answer
answers [] c = []
answers (x ∷ xs) c = (does 0 x c).answer ∷ answers xs (does 0 x c).cache
