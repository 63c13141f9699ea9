-- A removal for an offered body: whether it must pack is certain where the last body stays, and it leaves what the plan
-- leaves, packed. Assumes nothing.
use Rattle.std.proofs.Common.{Option, Some, slice_get}
use Rattle.std.proofs.lemmas.Option.{none-some, get_or_from_slice_get}
use mathlib.Core.Path.{◌≡◌, refl, sym, ap, ◌∙◌}
use mathlib.Core.Logic.{inr}
use mathlib.Core.Bool.{Bool, true, false, cond}
use mathlib.Core.List.{List, [], ◌∷◌, ◌++◌}
use Prim.Native.Nat.{ℕ, ◌+◌, ◌-◌, ◌≤◌, ◌<◌}
use native.Mathlib.Numerals.{unary_clauses}
use native.Mathlib.Omega.{arith}
use lib.Dec.{ltb}
use lib.ListN.{length, get_or, set, take, replicate}
use borrow.Author.Tests.{ltb-true, ne_eqb}
use Rattle.table.specs.declared.Entry.{Entry}
use Rattle.table.specs.Layout.{limits_of, entry_count, entries_at}
use Rattle.table.specs.Table.{entries_from}
use Rattle.table.specs.Parts.{entry_of, entries_of}
use Rattle.table.specs.WellFormed.{places_legal}
use Rattle.table.proofs.Facts.{LegalWords, words_say, places_hold}
use Rattle.table_entries.specs.Pack.{last_end}
use Rattle.entry_sweeps.specs.KeptBy.{kept_by}
use Rattle.entry_sweeps.proofs.KeptBy.{other_than}
use Rattle.table_records.specs.Choose.{skip_all}
use Rattle.pending_flows.specs.declared.header.Header.{Header}
use Rattle.pending_flows.specs.Header.{HoldsCache}
use Rattle.pending_calls.specs.declared.removal.Removed.{Removed}
use Rattle.pending_calls.specs.Removal.{everything}
use Rattle.template_removal.specs.Packing.{RemovesPacking}
use Rattle.template_removal.proofs.TemplateRemoved.{swept_is}
use Rattle.offer_plan.specs.declared.plan.OfferPlan.{OfferPlan}
use Rattle.offer_plan.specs.Plan.{NoneExpired}
use Rattle.planned_removal.specs.Alone.{GoesAlone}
use Rattle.planned_removal.proofs.AloneGoing.{alone_removed}
use Rattle.packed_removal.specs.ForBody.{EndsPast, RemovesForBody}

-- ---- the last entry, where it stays

last_behind : (xs : List Entry) (e : Entry) → last_end (xs ++ (e ∷ [])) ≡ e.place + e.len
unfolding last_end
last_behind [] e = refl
last_behind (x ∷ []) e = refl
last_behind (x ∷ y ∷ xs) e = last_behind (y ∷ xs) e

kept_behind : (p : Entry → Bool) (xs : List Entry) (e : Entry) → p e ≡ true →
    kept_by p (xs ++ (e ∷ [])) ≡ kept_by p xs ++ (e ∷ [])
unfolding kept_by
kept_behind p [] e h = rw h
kept_behind p (x ∷ xs) e h = by_test (p x) (kept_behind p xs e h)
  where
    by_test : (t : Bool) → kept_by p (xs ++ (e ∷ [])) ≡ kept_by p xs ++ (e ∷ []) →
        cond t (x ∷ kept_by p (xs ++ (e ∷ []))) (kept_by p (xs ++ (e ∷ [])))
        ≡ cond t (x ∷ kept_by p xs) (kept_by p xs) ++ (e ∷ [])
    by_test true ih = ap (λ (l : List Entry). x ∷ l) ih
    by_test false ih = ih

past_kept : (label len most : ℕ) (es : List Entry) → EndsPast label len most es →
    most < last_end (kept_by (other_than label) es) + len
past_kept label len most es ends =
    let e = ends.last in
    let xs = ends.before in
    let stays : other_than label e ≡ true = rw (ne_eqb label e.label ends.other) refl in
    let kept : last_end (kept_by (other_than label) es) ≡ e.place + e.len =
    rw (ends.behind, kept_behind (other_than label) xs e stays) (last_behind (kept_by (other_than label) xs) e) in
    let end : last_end es ≡ e.place + e.len = rw ends.behind (last_behind xs e) in
    omega (arith, ends.past, kept, end)

parts_behind : (w : List ℕ) (ws : List (List ℕ)) → entries_of (w ∷ ws)
    ≡ take (length ws) (entries_of (w ∷ ws)) ++ (entry_of (get_or (w ∷ ws) (length ws) []) ∷ [])
parts_behind w [] = refl
parts_behind w (x ∷ ws) = ap (λ (l : List Entry). entry_of w ∷ l) (parts_behind x ws)

-- by the words of the last entry, where there is one
pub ends_told : (label len most : ℕ) (ws : List (List ℕ)) (w : List ℕ) (e : Entry) (end : ℕ) →
    Some w ≡ slice_get ws (length ws - 1) → e ≡ entry_of w → end ≡ last_end (entries_of ws) →
    (label ≡ e.label → ⊥) → ltb (most - end) len ≡ true → EndsPast label len most (entries_of ws)
ends_told label len most [] w e end last is ends other past = absurd (none-some _ (sym last))
ends_told label len most (x ∷ ws) w e end last is ends other past =
    let found = get_or_from_slice_get (x ∷ ws) (length ws) w [] (sym (simp unary_clauses at last)) in
    record {
      before = take (length ws) (entries_of (x ∷ ws));
      last = e;
      behind = rw (is, ← found) (parts_behind x ws);
      other = other;
      past = omega (arith, ends, ltb-true (most - end) len past);
    }

-- ---- the removal

module _ (w b : List ℕ) {h : Header} (holds : HoldsCache h w (length b)) where
  legal : LegalWords w (length b)
  legal = words_say w (length b) holds.legal

  pub total_placed : (parts : List (List ℕ)) → entries_of parts ≡ entries_from w entries_at h.figures.entries →
      places_legal 0 h.limits.max_total_bytes (entries_of parts) ≡ true
  total_placed parts entries =
      rw (entries, holds.figures, holds.limits)
      (places_hold 0 (limits_of w).max_total_bytes (entries_from w entries_at (entry_count w))
      legal.table_legal_lem.entries_placed)

  pub total_few : h.limits.max_total_bytes ≤ 67108864
  total_few = rw holds.limits legal.limits_legal_lem.total_small

  pub packed_for : (clock apart label len : ℕ) (plan : OfferPlan) {x : Option ℕ} {w' b' : List ℕ} {r : Removed} →
      NoneExpired w clock plan → ((k : ℕ) → x ≡ Some k → GoesAlone w plan k) → x ≡ Some label → {t : Bool} →
      (parts : List (List ℕ)) → entries_of parts ≡ entries_from w entries_at h.figures.entries →
      (t ≡ true → EndsPast label len h.limits.max_total_bytes (entries_of parts)) → t ≡ true →
      RemovesPacking everything apart (set (replicate 1024 0) label skip_all) w b w' b' r →
      RemovesForBody clock plan apart len w b w' b' r
  packed_for clock apart label len plan {r = r} stay alone told parts entries certain sure done =
      let are : entries_from done.unpacked entries_at r.entries
      ≡ kept_by (other_than label) (entries_from w entries_at (entry_count w)) =
      done.removes.entries ∙ swept_is w (length b) holds.legal label apart in
      let past = rw (entries, holds.figures, holds.limits)
      at (past_kept label len h.limits.max_total_bytes (entries_of parts) (certain sure)) in
      record {
        unpacked = done.unpacked;
        removes = alone_removed w b holds.legal clock apart label plan stay alone told done.removes;
        left = inr (record { past = rw are past; packs = done.packs });
      }
