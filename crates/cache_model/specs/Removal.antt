-- Three ways for bodies to go: templates evicted, bodies that fail a test, bodies beyond a cap.
-- Templates stand by recency, least recent first.
use Rattle.std.specs.Prelude.{List, [], ◌∷◌, ◌++◌, Bool, not, cond, ℕ, suc, ◌+◌, ◌-◌, ltb, length, take, drop}
use Rattle.cache_model.specs.Bodies.{Body, Template, sum_templates, size, keep, all_bodies, unless_empty}

-- the templates that stay held, and the bodies that were removed so far
pub record Split : Type 0 where
  pub held : List Template
  pub removed : List Body

abbrev pub untouched : List Template → Split
untouched ts = record { held = ts; removed = [] }

-- the n least recent templates go
unfoldable pub evicted : ℕ → Split → Split
evicted n s = record { held = drop n s.held; removed = s.removed ++ all_bodies (take n s.held) }

-- how many least recent templates must go until `more` bytes fit under `most`
unfoldable pub evictions : ℕ → ℕ → List Template → ℕ
evictions most more [] = 0
evictions most more (t ∷ ts) = cond (ltb most (sum_templates size (t ∷ ts) + more)) (suc (evictions most more ts)) 0

-- the bodies of a template's id that fail a test go, and emptied templates
abbrev pub kept_of : (ℕ → Body → Bool) → List Template → List Template
kept_of p [] = []
kept_of p (t ∷ ts) = unless_empty t.id (keep (p t.id) t.bodies) (kept_of p ts)

abbrev pub failed_of : (ℕ → Body → Bool) → List Template → List Body
failed_of p [] = []
failed_of p (t ∷ ts) = keep (λ b. not (p t.id b)) t.bodies ++ failed_of p ts

unfoldable pub pruned : (ℕ → Body → Bool) → Split → Split
pruned p s = record { held = kept_of p s.held; removed = s.removed ++ failed_of p s.held }

-- the oldest bodies of each template beyond a cap go
abbrev pub newest_of : ℕ → List Template → List Template
newest_of n [] = []
newest_of n (t ∷ ts) = record { id = t.id; bodies = drop (length t.bodies - n) t.bodies } ∷ newest_of n ts

abbrev pub oldest_of : ℕ → List Template → List Body
oldest_of n [] = []
oldest_of n (t ∷ ts) = take (length t.bodies - n) t.bodies ++ oldest_of n ts

unfoldable pub capped : ℕ → Split → Split
capped n s = record { held = newest_of n s.held; removed = s.removed ++ oldest_of n s.held }
