-- The cache, and what a call answers.
use Rattle.std.specs.Prelude.{List, [], ◌∷◌, Bool, ℕ, ◌+◌, min}
use Rattle.config.specs.declared.PendingFlowsConfig.{PendingFlowsConfig}
use Rattle.cache_model.specs.Bodies.{Body, Template}

pub record Cache : Type 0 where
  pub limits : PendingFlowsConfig
  pub cached : ℕ  -- document 01's `pending_cached`
  pub dropped : ℕ  -- document 01's `pending_dropped`
  pub held : List Template  -- least recent first
  pub chance : Template  -- the last drain's id and what it handed out, while it may be put back; no bodies: no chance

-- "Counters stop at 2^64 - 1."
abbrev pub counter_most : ℕ
counter_most = 18446744073709551615

abbrev pub raised : ℕ → ℕ → ℕ
raised c n = min (c + n) counter_most

abbrev pub no_chance : Template
no_chance = record { id = 0; bodies = [] }

-- what was handed out may be put back; nothing handed out opens no chance
abbrev pub chance_of : ℕ → List Body → Template
chance_of i [] = no_chance
chance_of i (b ∷ bs) = record { id = i; bodies = b ∷ bs }

-- templates and bodies held, the byte total, both counters, bodies handed out
pub record Figures : Type 0 where
  pub templates : ℕ
  pub bodies : ℕ
  pub bytes : ℕ
  pub cached : ℕ
  pub dropped : ℕ
  pub handed : ℕ

pub data Answer : Type 0 where
  done : Answer
  number : ℕ → Answer  -- a number of document 01
  count : ℕ → Answer  -- bodies handed out by a drain, or dropped by a resize
  says : Bool → Answer  -- `would_accept`: yes or no
  shows : List ℕ → Answer  -- the bytes of a handed-out body
  spans : ℕ → Answer  -- a handed-out body's length; its place is free
  tells : Figures → Answer

pub record Outcome : Type 0 where
  pub answer : Answer
  pub cache : Cache
