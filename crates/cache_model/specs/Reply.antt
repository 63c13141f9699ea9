-- Calls on lent areas, which hold a cache or, damaged, none: what is answered, and what they hold afterwards.
use Rattle.std.specs.Prelude.{List, [], ◌∷◌, cond, ℕ, eqb}
use Rattle.std.proofs.Math.Option.{Option, none, some}
use Rattle.config.specs.declared.PendingFlowsConfig.{PendingFlowsConfig}
use Rattle.config.specs.Limits.{config_number}
use Rattle.cache_model.specs.Cache.{Cache, Answer, done, number, Outcome}
use Rattle.cache_model.specs.Calls.{opened}
use Rattle.cache_model.specs.History.{Call, does}

pub record Reply : Type 0 where
  pub answer : Answer
  pub holds : Option Cache

-- opening, in areas of so many bytes and words with any content: 1 to 5 in order and nothing changes, or an empty cache
unfoldable pub opening : PendingFlowsConfig → (bytes words : ℕ) → Option Cache → Reply
opening l bytes words was =
    cond (eqb (config_number l bytes words) 0) (record { answer = done; holds = some (opened l) })
    (record { answer = number (config_number l bytes words); holds = was })

-- "28 is tested first by every cache call but opening", and nothing changes; then what the call does to the cache.
-- A reading then shows an empty part, and the call beside it answers the number.
abbrev pub called : (Cache → Outcome) → Option Cache → Reply
called f none = record { answer = number 28; holds = none }
called f (some c) = record { answer = (f c).answer; holds = some (f c).cache }

-- the calls one after the other
unfoldable pub replies : List Call → Option Cache → List Answer
replies [] v = []
replies (x ∷ xs) v = (called (does 0 x) v).answer ∷ replies xs (called (does 0 x) v).holds
