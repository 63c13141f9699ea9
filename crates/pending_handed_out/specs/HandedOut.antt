-- What the queries on handed-out bodies promise.
use Rattle.std.specs.Prelude.{Result, Ok, Err}
use Rattle.std.specs.Prelude.{◌≡◌, List, [], ℕ, ◌+◌, ◌≤◌, length, take, drop}
use Rattle.std.proofs.Math.Option.{some}
use Rattle.table.specs.Layout.{limits_of}
use Rattle.cache_model.specs.Cache.{Cache, Answer, done, number, count, says, shows, spans, tells}
use Rattle.cache_model.specs.Queries.{place_handed_out, read_handed_out, handed_out}
use Rattle.pending_handed_out.specs.declared.BodyPlace.{BodyPlace}
use Rattle.pending_handed_out.specs.declared.PlaceRefusal.{PlaceRefusal}
use Rattle.pending_handed_out.specs.declared.PlaceRefusal.TheVariants as Refusal
use Rattle.pending_flows.specs.View.{Areas, view}
use Rattle.pending_queries.specs.Queries.{asked}

-- the bytes that an answer shows: none in a refusal
abbrev pub shown : Answer → List ℕ
shown done = []
shown (number n) = []
shown (count n) = []
shown (says b) = []
shown (shows bs) = bs
shown (spans n) = []
shown (tells f) = []

-- document 01's number of each refusal
abbrev pub place_number : PlaceRefusal → ℕ
place_number Refusal.NotHandedOut = 27
place_number Refusal.Damaged = 28

-- document 01's answer of each case: the place is free
abbrev pub place_answer : Result BodyPlace PlaceRefusal → Answer
place_answer (Ok p) = spans p.len
place_answer (Err n) = number (place_number n)

-- A handed-out body's place is free, but it lies within the configured bytes, and there the byte area holds the body.
pub record PlacesHandedOut (a : Areas) (k : ℕ) (r : Result BodyPlace PlaceRefusal) (a' : Areas) : Type 0 where
  pub answer : place_answer r ≡ asked (place_handed_out k) (view a)
  pub within : (p : BodyPlace) → r ≡ Ok p → p.place + p.len ≤ (limits_of a.words).max_total_bytes
  pub inside : (p : BodyPlace) → r ≡ Ok p → p.place + p.len ≤ length a.bytes
  pub holds : (p : BodyPlace) (c : Cache) → r ≡ Ok p → view a ≡ some c →
      take p.len (drop p.place a.bytes) ≡ (handed_out k c).bytes
  pub unchanged : a' ≡ a

-- Reading shows the body, or no bytes on 27 and 28.
pub record ReadsHandedOut (a : Areas) (k : ℕ) (bs : List ℕ) (a' : Areas) : Type 0 where
  pub part : bs ≡ shown (asked (read_handed_out k) (view a))
  pub unchanged : a' ≡ a
