-- How the cache's calls cross to C: a number, and values that are written on success only. Opening and the queries.
use Rattle.std.specs.Prelude.{Ok, Err}
use Rattle.pending_handed_out.specs.declared.BodyPlace.{BodyPlace}
use Rattle.pending_handed_out.specs.declared.PlaceRefusal.{PlaceRefusal}
use Rattle.std.specs.Prelude.{Result, ⊤}
use Rattle.config.specs.declared.ConfigRefusal.{ConfigRefusal}
use Rattle.std.specs.Prelude.{◌≡◌, cond, List, [], ◌∷◌, ℕ}
use Rattle.config.specs.declared.PendingFlowsConfig.{PendingFlowsConfig}
use Rattle.config.specs.Limits.{config_number}
use Rattle.table.specs.Layout.{ttl_of}
use Rattle.cache_model.specs.Cache.{Cache, Answer, done, number, count, says, shows, spans, tells}
use Rattle.cache_model.specs.Queries.{would_accept, figures}
use Rattle.cache_model.specs.Told.{limits_of}
use Rattle.pending_flows.specs.View.{Areas, view}
use Rattle.pending_flows.specs.Opening.{Opens, opening_in}
use Rattle.pending_queries.specs.Queries.{Asks, asked}
use Rattle.pending_handed_out.specs.HandedOut.{PlacesHandedOut, place_answer}

-- limits as numbers, in document 01's order; `has` is 0 where there is no TTL
abbrev pub limits_from : (t b e m has ttl : ℕ) → PendingFlowsConfig
limits_from t b e m has ttl = limits_of t b e m (ttl_of has ttl)

-- 0, or document 01's number
abbrev pub exported_number : Answer → ℕ
exported_number done = 0
exported_number (number n) = n
exported_number (count n) = 0
exported_number (says b) = 0
exported_number (shows bs) = 0
exported_number (spans n) = 0
exported_number (tells f) = 0

-- a count; 1 for yes and 0 for no; the six figures; unchanged where there is none of them, as in a refusal
abbrev pub exported_values : Answer → List ℕ → List ℕ
exported_values done vs = vs
exported_values (number n) vs = vs
exported_values (count n) vs = n ∷ []
exported_values (says b) vs = cond b 1 0 ∷ []
exported_values (shows bs) vs = vs
exported_values (spans n) vs = vs
exported_values (tells f) vs = f.templates ∷ f.bodies ∷ f.bytes ∷ f.cached ∷ f.dropped ∷ f.handed ∷ []

-- an answer handed over: r is returned, and the values lent before and after
pub record Exported (answer : Answer) (r : ℕ) (vs vs' : List ℕ) : Type 0 where
  pub returned : r ≡ exported_number answer
  pub written : vs' ≡ exported_values answer vs

-- A call handed over: r is the number of the definition's answer, and the call behind keeps its own promise, which says
-- that its answer is the definition's.
pub record Exports {A : Type 0} (answer : Answer) (Promise : A → Type 0) (r : ℕ) : Type 0 where
  pub returned : r ≡ exported_number answer
  pub called_answer : A
  pub promise : Promise called_answer

-- the same of a call with values
pub record ExportsValues {A : Type 0} (answer : Answer) (Promise : A → Type 0) (r : ℕ) (vs vs' : List ℕ) :
    Type 0 where
  pub exported : Exported answer r vs vs'
  pub called_answer : A
  pub promise : Promise called_answer

-- a question's answer, by its definition
abbrev pub asked_in : (Cache → Answer) → Areas → Answer
asked_in question a = asked question (view a)

-- numbers 1 to 5 of these limits for areas of so many words and bytes; the TTL plays no part
abbrev pub ExportsValidate : (words bytes : ℕ) → PendingFlowsConfig → (r : ℕ) → Type 0
ExportsValidate words bytes limits r = r ≡ config_number limits bytes words

abbrev pub ExportsOpen : PendingFlowsConfig → Areas → ℕ → Areas → Type 0
ExportsOpen limits a r a' =
    Exports (opening_in limits a).answer (λ (x : Result ⊤ ConfigRefusal). Opens limits a x a') r

-- a query: the areas stay as they were
abbrev pub ExportsQuery : (Cache → Answer) → Areas → ℕ → Areas → (vs vs' : List ℕ) → Type 0
ExportsQuery question a r a' vs vs' =
    ExportsValues (asked_in question a) (λ (x : Answer). Asks question a x a') r vs vs'

abbrev pub ExportsWouldAccept : (id len clock : ℕ) → Areas → ℕ → Areas → (v v' : ℕ) → Type 0
ExportsWouldAccept id len clock a r a' v v' =
    ExportsQuery (λ c. says (would_accept id len clock c)) a r a' (v ∷ []) (v' ∷ [])

abbrev pub ExportsFigures : Areas → ℕ → Areas → (vs vs' : List ℕ) → Type 0
ExportsFigures a r a' vs vs' = ExportsQuery (λ c. tells (figures c)) a r a' vs vs'

-- place and length; unchanged on a refusal
abbrev pub exported_place : Result BodyPlace PlaceRefusal → List ℕ → List ℕ
exported_place (Ok p) vs = p.place ∷ p.len ∷ []
exported_place (Err n) vs = vs

pub record ExportedPlace (answer : Result BodyPlace PlaceRefusal) (r : ℕ) (vs vs' : List ℕ) : Type 0 where
  pub returned : r ≡ exported_number (place_answer answer)
  pub written : vs' ≡ exported_place answer vs

-- The place is free: the values are those of an answer that keeps the call's promise.
pub record ExportsPlace (k : ℕ) (a : Areas) (r : ℕ) (a' : Areas) (vs vs' : List ℕ) : Type 0 where
  pub answer : Result BodyPlace PlaceRefusal
  pub promise : PlacesHandedOut a k answer a'
  pub exported : ExportedPlace answer r vs vs'
