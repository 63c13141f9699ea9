-- A label that no record has: there is one while the records are fewer than the labels. Assumes nothing.
use mathlib.Core.Path.{◌≡◌, refl, sym, ap, ◌∙◌}
use mathlib.Core.Logic.{◌≢◌}
use mathlib.Core.Bool.{Bool, true, false, not, ◌||◌, cond, false≢true}
use mathlib.Core.List.{List, [], ◌∷◌}
use Prim.Native.Nat.{ℕ, zero, suc, ◌+◌, ◌≤◌, ◌<◌}
use native.Mathlib.Omega.{arith}
use native.Mathlib.Decide.{ℕ_discrete}
use lib.Dec.{eqb, ltb}
use Rattle.std.specs.Prelude.{Some, None}
use Rattle.std.proofs.lemmas.List.Quantifiers.{position-Some}
use Rattle.std.specs.List.{position, position_or_len}
use lib.ListN.{length, get_or, replicate, length-replicate, get_or-replicate}
use borrow.Author.Tests.{eqb-true, eqb-false, ltb-false}
use Rattle.table.specs.declared.TemplateRecord.{TemplateRecord}
use Rattle.table.specs.Table.{has_label}
use Rattle.table.specs.Parts.{template_of, templates_of}
use Rattle.std.proofs.lemmas.List.{length-map}
use Rattle.table_records.specs.Choose.{skip_all, skipping, RoomForLabels, FreeLabel}
use Rattle.table_records.proofs.Skips.{length_skipping, skipping_at}

-- the records without the first of a label
without : ℕ → List TemplateRecord → List TemplateRecord
without k [] = []
without k (r ∷ rs) = cond (eqb k r.label) rs (r ∷ without k rs)

length_without : (k : ℕ) (rs : List TemplateRecord) → has_label k rs ≡ true → suc (length (without k rs)) ≡ length rs
unfolding without
length_without k [] h = absurd (false≢true h)
length_without k (r ∷ rs) h = by_label (eqb k r.label) h (length_without k rs)
  where
    by_label : (t : Bool) → t || has_label k rs ≡ true → (has_label k rs ≡ true → suc (length (without k rs))
        ≡ length rs) → suc (length (cond t rs (r ∷ without k rs))) ≡ suc (length rs)
    by_label true h f = refl
    by_label false h f = ap suc (f h)

has_without : (j k : ℕ) (rs : List TemplateRecord) → j ≢ k → has_label j rs ≡ true → has_label j (without k rs) ≡ true
unfolding without
has_without j k [] d h = h
has_without j k (r ∷ rs) d h = by_label (eqb k r.label) refl (eqb j r.label) refl h (has_without j k rs d)
  where
    by_label : (t : Bool) → eqb k r.label ≡ t → (s : Bool) → eqb j r.label ≡ s → s || has_label j rs ≡ true →
        (has_label j rs ≡ true → has_label j (without k rs) ≡ true) →
        has_label j (cond t rs (r ∷ without k rs)) ≡ true
    by_label true e true f h g = absurd (d (eqb-true j r.label f ∙ sym (eqb-true k r.label e)))
    by_label true e false f h g = h
    by_label false e true f h g = rw f
    by_label false e false f h g = rw f (g h)

-- so many labels have so many records, at least
labels_few : (n : ℕ) (rs : List TemplateRecord) → ((j : ℕ) → j < n → has_label j rs ≡ true) → n ≤ length rs
labels_few zero rs h = omega arith
labels_few (suc n) rs h =
    omega (
      arith,
      labels_few n (without n rs) (λ j a. has_without j n rs (λ e. omega arith) (h j (omega arith))),
      length_without n rs (h n (omega arith)),
    )

-- where no number passes, none does at any place
none_passes : (p : ℕ → Bool) (xs : List ℕ) → length xs ≤ position_or_len p xs → (j : ℕ) → j < length xs →
    p (get_or xs j 0) ≡ false
none_passes p [] h j few = absurd (omega arith)
none_passes p (x ∷ xs) h zero few = by_first (p x) h
  where
    by_first : (t : Bool) → suc (length xs) ≤ cond (not t) (1 + position_or_len p xs) 0 → t ≡ false
    by_first true h = absurd (omega arith)
    by_first false h = refl
none_passes p (x ∷ xs) h (suc j) few = by_first (p x) h (λ n. none_passes p xs n j (omega arith))
  where
    by_first : (t : Bool) → suc (length xs) ≤ cond (not t) (1 + position_or_len p xs) 0 →
        (length xs ≤ position_or_len p xs → p (get_or xs j 0) ≡ false) → p (get_or xs j 0) ≡ false
    by_first true h rest = absurd (omega arith)
    by_first false h rest = rest (omega arith)

-- where each label of a record has some, and no other
module _ (parts : List (List ℕ)) (clear used : List ℕ) (room : RoomForLabels (length parts) clear)
    (is : used ≡ skipping clear (templates_of parts)) where
  abbrev rs : List TemplateRecord
  rs = templates_of parts

  many : length rs ≡ length parts
  many = length-map parts template_of

  long : length used ≡ length clear
  long = ap length is ∙ length_skipping clear rs

  used_at : (j : ℕ) → j < length clear → get_or used j 0 ≡ cond (has_label j rs) skip_all 0
  used_at j h =
      let none : get_or clear j 0 ≡ 0 =
      ap (λ (l : List ℕ). get_or l j 0) room.cleared ∙ get_or-replicate {A = ℕ} (length clear) j 0 0 h in
      ap (λ (l : List ℕ). get_or l j 0) is ∙ skipping_at j clear rs h ∙ rw none

  has_some : (j : ℕ) → j < length clear → (t : Bool) → has_label j rs ≡ t → eqb (get_or used j 0) 0 ≡ false → t ≡ true
  has_some j h true e some = refl
  has_some j h false e some =
      let z : get_or used j 0 ≡ 0 = used_at j h ∙ rw e in
      absurd (eqb-false (get_or used j 0) 0 some z)

  -- there are fewer records than labels, so that not all have some
  pub one_free : position (λ sum. eqb sum 0) used ≡ None → ⊥
  one_free none = by_place (ltb (position_or_len (λ sum. eqb sum 0) used) (length used)) refl none
    where
      by_place : (t : Bool) → ltb (position_or_len (λ sum. eqb sum 0) used) (length used) ≡ t →
          cond t (Some (position_or_len (λ sum. eqb sum 0) used)) None ≡ None → ⊥
      by_place true e h = absurd cc
      by_place false e h =
          let past = ltb-false (position_or_len (λ sum. eqb sum 0) used) (length used) e in
          let all = labels_few (length used) rs
          (λ j under. has_some j (omega (arith, long)) (has_label j rs) refl
          (none_passes (λ sum. eqb sum 0) used past j under)) in
          absurd (omega (arith, all, many, long, room.more))

  pub free_found : (k : ℕ) → position (λ sum. eqb sum 0) used ≡ Some k → FreeLabel rs k
  free_found k found =
      let at = position-Some (λ sum. eqb sum 0) used k 0 found in
      let below : k < length clear = omega (arith, at.0, long) in
      record {
        below = omega (arith, room.within);
        few = λ h. omega (arith, room.few (omega (arith, many)));
        absent = has_none below (has_label k rs) refl (eqb-true (get_or used k 0) 0 at.1);
      }
    where
      has_none : k < length clear → (t : Bool) → has_label k rs ≡ t → get_or used k 0 ≡ 0 → t ≡ false
      has_none h false e z = refl
      has_none h true e z =
          let some : get_or used k 0 ≡ skip_all = used_at k h ∙ rw e in
          absurd (omega arith)

-- for records that are not few there is room for all labels
pub room_for_all : (n : ℕ) → 32 ≤ n → n < 1024 → RoomForLabels n (replicate 1024 0)
room_for_all n many under =
    let long : length (replicate {A = ℕ} 1024 0) ≡ 1024 = length-replicate {A = ℕ} 1024 0 in
    record {
      cleared = ap (λ (k : ℕ). replicate k 0) (sym long);
      within = omega arith;
      more = omega arith;
      few = λ h. absurd (omega arith);
    }
