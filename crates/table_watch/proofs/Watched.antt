-- The watch beside the pass over the entries: how many watched ones were passed, and which one is kept.
-- Assumes nothing.
use Rattle.std.proofs.Common.{◌≡◌, ℕ, ◌+◌, ◌-◌, ◌<◌, ◌≤◌, Bool, true, false, cond, eqb, List, [], ◌∷◌, drop, Option, Some, None, refl, sym, ◌∙◌, arith, eq-eqb, ne_eqb}
use native.Mathlib.Decide.{ℕ_discrete, dec_lt}
use Rattle.table.specs.declared.Entry.{Entry}
use Rattle.table_watch.specs.declared.Watch.{Watch}
use Rattle.table_watch.specs.declared.LabelSeen.{LabelSeen}
use Rattle.table_watch.specs.Watch.{is_watched, count_watched, nth_watched, seen_by}
use Rattle.table_watch.specs.Watch.{kept_of, passed_more}

-- which entry is kept
module _ (live nth : ℕ) (kept : Option Entry) (e : Entry) where
  pub kept_here : live ≡ nth → Some e ≡ kept_of live nth kept e
  unfolding kept_of
  kept_here h = rw (eq-eqb live nth h)

  pub kept_before : (live ≡ nth → ⊥) → kept ≡ kept_of live nth kept e
  unfolding kept_of
  kept_before h = rw (ne_eqb live nth h)

abbrev seen_as : ℕ → Option Entry → LabelSeen
seen_as live found = record { live = live; found = found }

same_seen : {a b : ℕ} {f g : Option Entry} → a ≡ b → f ≡ g → seen_as a f ≡ seen_as b g
same_seen e h = cc

-- the first i entries are passed
pub record Watched (es : List Entry) (watch : Watch) (passed : LabelSeen) (i : ℕ) : Type 0 where
  -- no more are counted than passed
  pub few : passed.live ≤ i
  -- the whole count is what was counted, and then what is left
  pub counted : count_watched watch es ≡ passed.live + count_watched watch (drop i es)
  -- the sought one, where it was passed
  pub kept : watch.nth < passed.live → passed.found ≡ nth_watched watch watch.nth es
  -- else none is kept, and it is among those left
  pub none : passed.live ≤ watch.nth → passed.found ≡ None
  pub ahead : passed.live ≤ watch.nth → nth_watched watch (watch.nth - passed.live) (drop i es)
      ≡ nth_watched watch watch.nth es

module _ (es : List Entry) (watch : Watch) where
  pub none_watched : Watched es watch (seen_as 0 None) 0
  none_watched = record {
    few = omega arith;
    counted = omega arith;
    kept = λ n. absurd (omega arith);
    none = λ n. refl;
    ahead = λ n. let z : watch.nth - 0 ≡ watch.nth = omega arith in rw z;
  }

module _ {es : List Entry} {watch : Watch} {passed : LabelSeen} {i : ℕ} (inv : Watched es watch passed i) where
  module _ (e : Entry) (some : drop i es ≡ e ∷ drop (i + 1) es) where
    abbrev kept_then : Option Entry
    kept_then = kept_of passed.live watch.nth passed.found e

    abbrev rest : List Entry
    rest = drop (i + 1) es

    next_count : count_watched watch (drop i es) ≡ cond (is_watched watch e) 1 0 + count_watched watch rest
    unfolding count_watched
    next_count = rw some

    next : (k : ℕ) → nth_watched watch k (drop i es) ≡ cond (is_watched watch e)
        (cond (eqb k 0) (Some e) (nth_watched watch (k - 1) rest)) (nth_watched watch k rest)
    unfolding nth_watched
    next k = rw some

    -- the entry is watched: it is the kept one, or one that was passed before is, or it is further on
    module _ (test : true ≡ is_watched watch e) where
      here : watch.nth ≡ passed.live → Some e ≡ nth_watched watch watch.nth es
      here h =
          let z : watch.nth - passed.live ≡ 0 = omega arith in
          sym (rw (← test) at (next 0)) ∙ (rw z at (inv.ahead (omega arith)))

      kept_one : watch.nth < passed.live + 1 → Dec (passed.live ≡ watch.nth) →
          kept_then ≡ nth_watched watch watch.nth es
      kept_one n (yes d) =
          rw (← kept_here passed.live watch.nth passed.found e d) (here (sym d))
      kept_one n (no d) =
          rw (← kept_before passed.live watch.nth passed.found e d) (inv.kept (omega arith))

      none_yet : passed.live + 1 ≤ watch.nth → kept_then ≡ None
      none_yet n =
          sym (kept_before passed.live watch.nth passed.found e (λ e. absurd (omega arith))) ∙ inv.none (omega arith)

      further : passed.live + 1 ≤ watch.nth →
          nth_watched watch (watch.nth - (passed.live + 1)) rest ≡ nth_watched watch watch.nth es
      further n =
          let z : watch.nth - (passed.live + 1) ≡ watch.nth - passed.live - 1 = omega arith in
          let some-between : watch.nth - passed.live ≡ 0 → ⊥ = λ y. omega arith in
          rw z (sym (rw (← test, ne_eqb (watch.nth - passed.live) 0 some-between)
          at (next (watch.nth - passed.live))) ∙ inv.ahead (omega arith))

    one_more : (t : Bool) → t ≡ is_watched watch e →
        Watched es watch (cond t (seen_as (passed.live + 1) kept_then) passed) (i + 1)
    one_more true test = let n = rw (← test) at next_count in record {
      few = omega (arith, inv.few);
      counted = omega (arith, inv.counted);
      kept = λ k. kept_one test k (ℕ_discrete passed.live watch.nth);
      none = none_yet test;
      ahead = λ k. further test k;
    }
    one_more false test = let n = rw (← test) at next_count in record {
      few = omega (arith, inv.few);
      counted = omega (arith, inv.counted);
      kept = inv.kept;
      none = inv.none;
      ahead = λ k. sym (rw (← test) at (next (watch.nth - passed.live))) ∙ inv.ahead k;
    }

    pub entry_watched : {c : LabelSeen} → c ≡ passed_more watch e passed → Watched es watch c (i + 1)
    unfolding passed_more
    entry_watched h = rw h (one_more (is_watched watch e) refl)

  module _ (none : drop i es ≡ []) where
    all_counted : passed.live ≡ count_watched watch es
    unfolding count_watched
    all_counted =
        let z : count_watched watch (drop i es) ≡ 0 = rw none in
        omega (arith, inv.counted)

    found_at_end : Dec (watch.nth < passed.live) → passed.found ≡ nth_watched watch watch.nth es
    unfolding nth_watched
    found_at_end (yes n) = inv.kept n
    found_at_end (no n) =
        let m : passed.live ≤ watch.nth = omega arith in
        inv.none m ∙ (rw none at (inv.ahead m))

    pub all_watched : passed ≡ seen_by watch es
    unfolding seen_by
    all_watched = same_seen all_counted (found_at_end (dec_lt watch.nth passed.live))
