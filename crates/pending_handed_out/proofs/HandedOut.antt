-- Handed-out bodies, by the entries of the handed-out record. Assumes nothing.
use Rattle.std.proofs.Common.{Option, Some, None, Result, Ok, Err}
use Rattle.table.specs.declared.Damaged.{Damaged}
use mathlib.Core.Path.{◌≡◌, refl, ap, sym, ◌∙◌}
use mathlib.Core.Bool.{Bool, true, false, ◌&&◌, cond}
use mathlib.Core.List.{List, [], ◌∷◌}
use mathlib.Core.Option.{Option as Maybe, none, some}
use Prim.Native.Nat.{ℕ, zero, suc, ◌+◌, ◌-◌, ◌≤◌, ◌<◌}
use native.Mathlib.Omega.{arith}
use lib.Dec.{eqb, ltb}
use lib.ListN.{length, get_or, take, drop, length-drop}
use lib.Seq.{length-take-le}
use borrow.Author.Tests.{lt-ltb, le-ltb, ne_eqb}
use Rattle.config.proofs.Lists.{All}
use Rattle.table.specs.declared.Entry.{Entry}
use Rattle.table.specs.declared.TemplateRecord.{TemplateRecord}
use Rattle.table_watch.specs.declared.Sought.TheVariants as Sought
use Rattle.table_watch.specs.declared.LabelSeen.{LabelSeen}
use Rattle.table_watch.specs.declared.Watch.{Watch}
use Rattle.table.specs.Layout.{limits_of}
use Rattle.table.specs.Table.{table_of, tally}
use Rattle.table.specs.WellFormed.{well_formed}
use Rattle.table.specs.Passes.{first_label}
use Rattle.table_watch.specs.Watch.{is_watched, nth_watched, watch_of, watch_for, seen_by}
use Rattle.table_check.specs.Examined.{examined}
use Rattle.table.proofs.Facts.{Placed, LegalWords, words_say}
use Rattle.table_watch.proofs.LiveWatch.{any_clock}
use Rattle.table_watch.proofs.Verdicts.{is_seen}
use Rattle.cache_model.specs.Bodies.{Body}
use Rattle.cache_model.specs.Cache.{Cache, number, spans}
use Rattle.cache_model.specs.Queries.{no_body, handed_out, read_handed_out, place_handed_out}
use Rattle.pending_handed_out.specs.declared.BodyPlace.{BodyPlace}
use Rattle.pending_handed_out.specs.declared.PlaceRefusal.{PlaceRefusal}
use Rattle.pending_handed_out.specs.declared.PlaceRefusal.TheVariants as Refusal
use Rattle.pending_flows.specs.View.{Areas, body_at, bodies_at, chance_at, cache_of, areas_of, view}
use Rattle.pending_queries.specs.Queries.{asked}
use Rattle.pending_handed_out.specs.HandedOut.{shown, place_number, place_answer, PlacesHandedOut}
use Rattle.pending_handed_out.specs.HandedOut.{ReadsHandedOut}
use Rattle.pending_flows.proofs.Templates.{no_bodies}
use Rattle.pending_flows.proofs.Questions.{seen_damaged, seen_legal, none_unlabelled}
use Rattle.pending_queries.proofs.Answers.{damaged, answered}

module _ (bytes : List ℕ) where
  -- the n-th body of a label, by the n-th entry
  abbrev NthBody : ℕ → List Body → Option Entry → Type 0
  NthBody n bs None = length bs ≤ n
  NthBody n bs (Some e) = (n < length bs) × (get_or bs n no_body ≡ body_at bytes e)

  nth_body : (k n nth : ℕ) (es : List Entry) →
      NthBody n (bodies_at bytes k es) (nth_watched (watch_of k 0 nth) n es)
  unfolding nth_watched
  nth_body k n nth [] = omega arith
  nth_body k n nth (e ∷ es) = rw (any_clock k nth e) (by_label (eqb k e.label) (λ m. nth_body k m nth es))
    where
      bs : List Body
      bs = bodies_at bytes k es

      later : ℕ → Option Entry
      later m = nth_watched (watch_of k 0 nth) m es

      further : (m : ℕ) (x : Option Entry) → NthBody m bs x → NthBody (suc m) (body_at bytes e ∷ bs) x
      further m None h = omega arith
      further m (Some f) h = (omega (arith, h.0), h.1)

      counted : (n : ℕ) → ((m : ℕ) → NthBody m bs (later m)) →
          NthBody n (body_at bytes e ∷ bs) (cond (eqb n 0) (Some e) (later (n - 1)))
      counted zero ih = (omega arith, refl)
      counted (suc m) ih = let z : suc m - 1 ≡ m = omega arith in rw (z, ne_eqb (suc m) 0 (λ q. omega arith))
          (further m (later m) (ih m))

      by_label : (b : Bool) → ((m : ℕ) → NthBody m bs (later m)) →
          NthBody n (cond b (body_at bytes e ∷ bs) bs)
          (cond (b && true) (cond (eqb n 0) (Some e) (later (n - 1))) (later n))
      by_label true ih = counted n ih
      by_label false ih = ih n

-- what holds of every entry holds of one that is found
found_all : (P : Entry → Type 0) (v : Watch) (n : ℕ) (es : List Entry) (e : Entry) → All P es →
    nth_watched v n es ≡ Some e → P e
unfolding nth_watched
found_all P v n [] e a h = let z : ◌≡◌ {A = ℕ} 0 1 = cc in absurd (omega arith)
found_all P v n (x ∷ es) e a h = by_test (is_watched v x) h (λ m. found_all P v m es e a.1)
  where
    later : ℕ → Option Entry
    later m = nth_watched v m es

    by_count : (b : Bool) → cond b (Some x) (later (n - 1)) ≡ Some e →
        ((m : ℕ) → later m ≡ Some e → P e) → P e
    by_count true g rest = let same : x ≡ e = cc in rw (← same) a.0
    by_count false g rest = rest (n - 1) g

    by_test : (b : Bool) → cond b (cond (eqb n 0) (Some x) (later (n - 1))) (later n) ≡ Some e →
        ((m : ℕ) → later m ≡ Some e → P e) → P e
    by_test true g rest = by_count (eqb n 0) g rest
    by_test false g rest = rest n g

placed_within : (from most : ℕ) (es : List Entry) → Placed from most es → All (λ e. e.place + e.len ≤ most) es
placed_within from most [] p = tt
placed_within from most (e ∷ es) p = (p.1, placed_within (e.place + e.len) most es p.2)

-- the handed-out bodies are those of the handed-out label, where no entry has what is no label
chance_bodies : (bytes : List ℕ) (es : List Entry) (rs : List TemplateRecord) → tally 1024 es ≡ 0 →
    (chance_at bytes es rs).bodies ≡ bodies_at bytes (first_label rs) es
chance_bodies bytes es [] unused = sym (no_bodies bytes 1024 es unused)
chance_bodies bytes es (r ∷ rs) unused = refl

-- the entry that was found, or none, for handed-out body k of a well-formed cache
record Finds (w b : List ℕ) (k : ℕ) (r : Option Entry) : Type 0 where
  absent : r ≡ None → length (cache_of (table_of w) b).chance.bodies ≤ k
  counted : (e : Entry) → r ≡ Some e → k < length (cache_of (table_of w) b).chance.bodies
  holds : (e : Entry) → r ≡ Some e → take e.len (drop e.place b) ≡ (handed_out k (cache_of (table_of w) b)).bytes
  within : (e : Entry) → r ≡ Some e → e.place + e.len ≤ (limits_of w).max_total_bytes

module _ (w b : List ℕ) (k : ℕ) (r : Option Entry) (ok : well_formed w (length b) ≡ true)
    (sought : r ≡ nth_watched (watch_of (first_label (table_of w).handed) 0 k) k (table_of w).entries) where
  abbrev out : ℕ
  out = first_label (table_of w).handed

  legal : LegalWords w (length b)
  legal = words_say w (length b) ok

  handed_bodies : (cache_of (table_of w) b).chance.bodies ≡ bodies_at b out (table_of w).entries
  handed_bodies = chance_bodies b (table_of w).entries (table_of w).handed (none_unlabelled w (length b) ok)

  nth_is : {x : Option Entry} → r ≡ x → NthBody b k (bodies_at b out (table_of w).entries) x
  nth_is h = rw (sym sought ∙ h) at (nth_body b out k k (table_of w).entries)

  finds : Finds w b k r
  finds = record {
    absent = λ h. rw handed_bodies (nth_is h);
    counted = λ e h. rw handed_bodies (nth_is h).0;
    holds = λ e h. rw handed_bodies (sym (ap (λ (x : Body). x.bytes) (nth_is h).1));
    within = λ e h.
        found_all (λ x. x.place + x.len ≤ (limits_of w).max_total_bytes) (watch_of out 0 k) k (table_of w).entries e
        (placed_within 0 (limits_of w).max_total_bytes (table_of w).entries legal.table_legal_lem.entries_placed)
        (sym sought ∙ h);
  }

-- The call for a place on a well-formed cache, by the entry that was found: x is the table that was tested.
module _ (w b : List ℕ) (k : ℕ) {x : Result LabelSeen Damaged} {s : LabelSeen} {r : Option Entry}
    (tested : x ≡ examined w (length b) (Sought.HandedOut k)) (seen : x ≡ Ok s) (is : r ≡ s.found) where
  ok : well_formed w (length b) ≡ true
  ok = seen_legal w (length b) (Sought.HandedOut k) tested seen

  found : Finds w b k r
  unfolding seen_by watch_for
  found =
      finds w b k r ok
      (is ∙ ap (λ (y : LabelSeen). y.found) (is_seen (well_formed w (length b)) _ tested seen))

  said : place_handed_out k (cache_of (table_of w) b) ≡ asked (place_handed_out k) (view (areas_of w b))
  said = answered (place_handed_out k) w b ok

  same_cache : (c : Cache) → view (areas_of w b) ≡ some c → cache_of (table_of w) b ≡ c
  unfolding view
  same_cache c e = some_is (rw ok at e)
    where
      some_is : some (cache_of (table_of w) b) ≡ some c → cache_of (table_of w) b ≡ c
      some_is h = cc

  pub not_handed_out : r ≡ None →
      PlacesHandedOut (areas_of w b) k (Err Refusal.NotHandedOut) (areas_of w b)
  unfolding place_handed_out
  not_handed_out h = record {
    answer = rw (le-ltb k (length (cache_of (table_of w) b).chance.bodies) (found.absent h)) at said;
    within = λ p g. other p g;
    inside = λ p g. other p g;
    holds = λ p c g v. other p g;
    unchanged = refl;
  }
    where
      other : {A : Type 0} (p : BodyPlace) → (Err Refusal.NotHandedOut) ≡ Ok p → A
      other p g = let z : ◌≡◌ {A = ℕ} 0 1 = cc in absurd (omega arith)

  abbrev place_of : Entry → BodyPlace
  place_of e = record { place = e.place; len = e.len }

  pub handed_out_at : (e : Entry) → r ≡ Some e →
      PlacesHandedOut (areas_of w b) k (Ok (place_of e)) (areas_of w b)
  unfolding place_handed_out
  handed_out_at e h = record {
    answer =
        ap spans (long e h)
        ∙ (rw (lt-ltb k (length (cache_of (table_of w) b).chance.bodies) (found.counted e h)) at said);
    within = λ p g. let same : place_of e ≡ p = cc in rw (← same) (found.within e h);
    inside = λ p g. let same : place_of e ≡ p = cc in rw (← same) (ends e h);
    holds = λ p c g v. let same : place_of e ≡ p = cc in rw (← same, ← same_cache c v) (found.holds e h);
    unchanged = refl;
  }
    where
      ends : (e : Entry) → r ≡ Some e → e.place + e.len ≤ length b
      ends e h =
          let legal : LegalWords w (length b) = words_say w (length b) ok in
          omega (arith, found.within e h, legal.limits_legal_lem.bytes_enough)

      long : (e : Entry) → r ≡ Some e → e.len ≡ length (handed_out k (cache_of (table_of w) b)).bytes
      long e h =
          sym (length-take-le e.len (drop e.place b) (omega (arith, ends e h, length-drop e.place b)))
          ∙ ap length (found.holds e h)

pub place_damaged : (w b : List ℕ) (k : ℕ) {x : Result LabelSeen Damaged} → x ≡ examined w (length b) (Sought.HandedOut k) →
    x ≡ Err (record {}) → PlacesHandedOut (areas_of w b) k (Err Refusal.Damaged) (areas_of w b)
place_damaged w b k tested e = record {
  answer = damaged (place_handed_out k) w b (seen_damaged w (length b) (Sought.HandedOut k) tested e);
  within = λ p g. other p g;
  inside = λ p g. other p g;
  holds = λ p c g v. other p g;
  unchanged = refl;
}
  where
    other : {A : Type 0} (p : BodyPlace) → (Err Refusal.Damaged) ≡ Ok p → A
    other p g = let z : ◌≡◌ {A = ℕ} 0 1 = cc in absurd (omega arith)

pub reads_handed_out : {a : Areas} {k : ℕ} {bs : List ℕ} → bs ≡ shown (asked (read_handed_out k) (view a)) →
    ReadsHandedOut a k bs a
reads_handed_out e = record { part = e; unchanged = refl }

-- What is shown, by the answer of the call beside it.
module _ (w b : List ℕ) (k : ℕ) (r : Result BodyPlace PlaceRefusal) (places : PlacesHandedOut (areas_of w b) k r (areas_of w b)) where
  pub shown_none : (n : PlaceRefusal) → r ≡ Err n →
      [] ≡ shown (asked (read_handed_out k) (view (areas_of w b)))
  unfolding place_handed_out read_handed_out
  shown_none n h = by_view (view (areas_of w b)) (ap place_answer (sym h) ∙ places.answer)
    where
      by_count : (c : Cache) (x : Bool) → number (place_number n) ≡ cond x (spans (length (handed_out k c).bytes))
          (number 27) →
          [] ≡ cond x (handed_out k c).bytes []
      by_count c true e = let z : ◌≡◌ {A = ℕ} 0 1 = cc in absurd (omega arith)
      by_count c false e = refl

      by_view : (v : Maybe Cache) → number (place_number n) ≡ asked (place_handed_out k) v →
          [] ≡ shown (asked (read_handed_out k) v)
      by_view none e = refl
      by_view (some c) e = by_count c (ltb k (length c.chance.bodies)) e

  pub shown_part : (p : BodyPlace) → r ≡ Ok p →
      take p.len (drop p.place b) ≡ shown (asked (read_handed_out k) (view (areas_of w b)))
  unfolding place_handed_out read_handed_out
  shown_part p h =
      by_view (view (areas_of w b)) (ap place_answer (sym h) ∙ places.answer) (λ c v. places.holds p c h v)
    where
      by_count : (c : Cache) (x : Bool) → spans p.len ≡ cond x (spans (length (handed_out k c).bytes))
          (number 27) →
          take p.len (drop p.place b) ≡ (handed_out k c).bytes →
          take p.len (drop p.place b) ≡ cond x (handed_out k c).bytes []
      by_count c true e g = g
      by_count c false e g = let z : ◌≡◌ {A = ℕ} 0 1 = cc in absurd (omega arith)

      by_view : (v : Maybe Cache) → spans p.len ≡ asked (place_handed_out k) v →
          ((c : Cache) → v ≡ some c → take p.len (drop p.place b) ≡ (handed_out k c).bytes) →
          take p.len (drop p.place b) ≡ shown (asked (read_handed_out k) v)
      by_view none e g = let z : ◌≡◌ {A = ℕ} 0 1 = cc in absurd (omega arith)
      by_view (some c) e g = by_count c (ltb k (length c.chance.bodies)) e (g c refl)
