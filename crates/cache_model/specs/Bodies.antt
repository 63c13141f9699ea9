-- What a cache holds: bodies, in templates (document 01, "Holding, ageing, pushing out").
use Rattle.std.specs.Prelude.{Option}
use Rattle.std.specs.Prelude.{List, [], ◌∷◌, ◌++◌, Bool, cond, ℕ, ◌+◌, eqb, length}
use Rattle.config.specs.Age.{expired_at}

-- document 01's "body", with what is kept beside it
pub record Body : Type 0 where
  pub number : ℕ  -- the ordinal of the offer that brought it: no rule reads it
  pub bytes : List ℕ
  pub clock : ℕ  -- the clock reading of that offer

pub record Template : Type 0 where
  pub id : ℕ
  pub bodies : List Body  -- in arrival order, oldest first

abbrev pub size : Body → ℕ
size b = length b.bytes

-- document 01's "expired", of a body
abbrev pub expired : Option ℕ → ℕ → Body → Bool
expired ttl now b = expired_at ttl now b.clock

-- sums of a weight over bodies, and over the bodies of templates
abbrev pub sum_bodies : (Body → ℕ) → List Body → ℕ
sum_bodies w [] = 0
sum_bodies w (b ∷ bs) = w b + sum_bodies w bs

abbrev pub sum_templates : (Body → ℕ) → List Template → ℕ
sum_templates w [] = 0
sum_templates w (t ∷ ts) = sum_bodies w t.bodies + sum_templates w ts

-- document 01's "byte total": the sum of held lengths
abbrev pub byte_total : List Template → ℕ
byte_total ts = sum_templates size ts

-- the bodies that pass a test
abbrev pub keep : (Body → Bool) → List Body → List Body
keep p [] = []
keep p (b ∷ bs) = cond (p b) (b ∷ keep p bs) (keep p bs)

abbrev pub all_bodies : List Template → List Body
all_bodies [] = []
all_bodies (t ∷ ts) = t.bodies ++ all_bodies ts

-- the bodies held under an id, and the templates of the other ids
abbrev pub bodies_of : ℕ → List Template → List Body
bodies_of i [] = []
bodies_of i (t ∷ ts) = cond (eqb i t.id) t.bodies (bodies_of i ts)

abbrev pub without : ℕ → List Template → List Template
without i [] = []
without i (t ∷ ts) = cond (eqb i t.id) ts (t ∷ without i ts)

-- a template in front of others, unless it is empty
abbrev pub unless_empty : ℕ → List Body → List Template → List Template
unless_empty i [] ts = ts
unless_empty i (b ∷ bs) ts = record { id = i; bodies = b ∷ bs } ∷ ts
