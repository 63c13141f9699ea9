-- The place of a record by its label, and the new positions of the others once it is taken off. Assumes nothing.
use mathlib.Core.Path.{◌≡◌, refl, sym, ap, ◌∙◌}
use mathlib.Core.Logic.{◌≢◌}
use mathlib.Core.Bool.{Bool, true, false, not, cond}
use mathlib.Core.List.{List, [], ◌∷◌, ◌++◌}
use Prim.Native.Nat.{ℕ, zero, suc, ◌+◌, ◌*◌, ◌-◌, ◌≤◌, ◌<◌}
use native.Mathlib.Omega.{arith}
use lib.Dec.{eqb, ltb}
use lib.ListN.{length, get_or, get_or-eq_default}
use borrow.Author.Tests.{eqb-true, eqb-false, ltb-true, ltb-false}
use Rattle.std.specs.Prelude.{Option, Some, None}
use Rattle.std.specs.List.{position_or_len}
use Rattle.config.specs.Limits.{record_words}
use Rattle.config.proofs.Lists.{All}
use Rattle.table.specs.declared.TemplateRecord.{TemplateRecord}
use Rattle.table.specs.Table.{record_at, records_from}
use Rattle.table_records.specs.Close.{nowhere}
use Rattle.table_records.specs.Take.{place_of, found_place, without_at, count_up, positions_but}

-- ---- looking for the label

-- as std counts the records before it
place_counted : (label : ℕ) (rs : List TemplateRecord) → position_or_len (λ r. eqb label r.label) rs ≡ place_of label rs
unfolding place_of
place_counted label [] = refl
place_counted label (r ∷ rs) = by_label (eqb label r.label) (place_counted label rs)
  where
    later : ℕ
    later = position_or_len (λ r. eqb label r.label) rs

    by_label : (t : Bool) → later ≡ place_of label rs →
        cond (not t) (1 + later) 0 ≡ cond t 0 (suc (place_of label rs))
    by_label true ih = refl
    by_label false ih = omega (arith, ih)

module _ (label : ℕ) (rs : List TemplateRecord) {x : Option ℕ} (sought : x ≡ found_place label rs) where
  by_test : (t : Bool) → ltb (place_of label rs) (length rs) ≡ t → x ≡ cond t (Some (place_of label rs)) None
  by_test t e = sought ∙ rw (place_counted label rs, e)

  pub place_told : (i : ℕ) → x ≡ Some i → (i ≡ place_of label rs) × (place_of label rs < length rs)
  place_told i some = by_tests (ltb (place_of label rs) (length rs)) refl
    where
      by_tests : (t : Bool) → ltb (place_of label rs) (length rs) ≡ t →
          (i ≡ place_of label rs) × (place_of label rs < length rs)
      by_tests true e =
          let is = by_test true e in (cc, ltb-true (place_of label rs) (length rs) e)
      by_tests false e = let is = by_test false e in absurd cc

  pub no_place_told : x ≡ None → length rs ≤ place_of label rs
  no_place_told none = by_tests (ltb (place_of label rs) (length rs)) refl
    where
      by_tests : (t : Bool) → ltb (place_of label rs) (length rs) ≡ t → length rs ≤ place_of label rs
      by_tests true e = let is = by_test true e in absurd cc
      by_tests false e = ltb-false (place_of label rs) (length rs) e

-- what is known of each record is known of the one at its place, which has the label
pub place_has : (P : TemplateRecord → Type 0) (label : ℕ) (w : List ℕ) (p k : ℕ) → All P (records_from w p k) →
    place_of label (records_from w p k) < k → let r = record_at w
    (p + record_words * place_of label (records_from w p k)) in
    P r × (label ≡ r.label)
unfolding place_of records_from
place_has P label w p zero a h = absurd (omega arith)
place_has P label w p (suc k) a h =
    by_label (eqb label (record_at w p).label) refl h (place_has P label w (p + record_words) k a.1)
  where
    rs : List TemplateRecord
    rs = records_from w (p + record_words) k

    Has : ℕ → Type 0
    Has q = P (record_at w q) × (label ≡ (record_at w q).label)

    by_label : (t : Bool) → eqb label (record_at w p).label ≡ t → cond t 0 (suc (place_of label rs)) < suc k →
        (place_of label rs < k → Has (p + record_words + record_words * place_of label rs)) →
        Has (p + record_words * cond t 0 (suc (place_of label rs)))
    by_label true e h later =
        let z : p + record_words * 0 ≡ p = omega arith in
        rw z (a.0, eqb-true label (record_at w p).label e)
    by_label false e h later =
        let i = place_of label rs in
        let z : p + record_words * suc i ≡ p + record_words + record_words * i = omega arith in
        rw z (later (omega arith))

-- where there is none, no record has the label
pub place_absent : (label : ℕ) (rs : List TemplateRecord) → length rs ≤ place_of label rs →
    All (λ u. label ≢ u.label) rs
unfolding place_of
place_absent label [] h = tt
place_absent label (r ∷ rs) h = by_label (eqb label r.label) refl h (place_absent label rs)
  where
    by_label : (t : Bool) → eqb label r.label ≡ t → suc (length rs) ≤ cond t 0 (suc (place_of label rs)) →
        (length rs ≤ place_of label rs → All (λ u. label ≢ u.label) rs) →
        (label ≢ r.label) × All (λ u. label ≢ u.label) rs
    by_label true e h later = absurd (omega arith)
    by_label false e h later = (eqb-false label r.label e, later (omega arith))

-- ---- the list without the one at a place

pub without_between : (xs : List TemplateRecord) (r : TemplateRecord) (ys : List TemplateRecord) →
    without_at (length xs) (xs ++ (r ∷ ys)) ≡ xs ++ ys
unfolding without_at
without_between [] r ys = refl
without_between (x ∷ xs) r ys = ap (λ (l : List TemplateRecord). x ∷ l) (without_between xs r ys)

-- ---- the new positions

pub up_at : (n k j : ℕ) → j < k → get_or (count_up n k) j nowhere ≡ n + j
unfolding count_up
up_at n zero j h = absurd (omega arith)
up_at n (suc k) zero h = omega arith
up_at n (suc k) (suc j) h = up_at (n + 1) k j (omega arith) ∙ omega arith

length_up : (n k : ℕ) → length (count_up n k) ≡ k
unfolding count_up
length_up n zero = refl
length_up n (suc k) = ap suc (length_up (n + 1) k)

length_but : (n at k : ℕ) → length (positions_but n at k) ≡ k
unfolding positions_but
length_but n at zero = refl
length_but n zero (suc k) = ap suc (length_up n k)
length_but n (suc at) (suc k) = ap suc (length_but (n + 1) at k)

but_before : (n at k j : ℕ) → j < at → at < k → get_or (positions_but n at k) j nowhere ≡ n + j
unfolding positions_but
but_before n at zero j h l = absurd (omega arith)
but_before n zero (suc k) j h l = absurd (omega arith)
but_before n (suc at) (suc k) zero h l = omega arith
but_before n (suc at) (suc k) (suc j) h l = but_before (n + 1) at k j (omega arith) (omega arith) ∙ omega arith

but_here : (n at k : ℕ) → at < k → get_or (positions_but n at k) at nowhere ≡ nowhere
unfolding positions_but
but_here n at zero h = absurd (omega arith)
but_here n zero (suc k) h = refl
but_here n (suc at) (suc k) h = but_here (n + 1) at k (omega arith)

but_behind : (n at k j : ℕ) → at < j → j < k → get_or (positions_but n at k) j nowhere ≡ n + j - 1
unfolding positions_but
but_behind n at zero j h l = absurd (omega arith)
but_behind n at (suc k) zero h l = absurd (omega arith)
but_behind n zero (suc k) (suc j) h l = up_at n k j (omega arith) ∙ omega arith
but_behind n (suc at) (suc k) (suc j) h l = but_behind (n + 1) at k j (omega arith) (omega arith) ∙ omega arith

-- as the code tells them
module _ (at k j : ℕ) where
  pub position_past : k ≤ j → nowhere ≡ get_or (positions_but 0 at k) j nowhere
  position_past h =
      sym (get_or-eq_default (positions_but 0 at k) nowhere {n = j} (omega (arith, length_but 0 at k)))

  module _ (held : at < k) where
    pub position_before : j < at → j ≡ get_or (positions_but 0 at k) j nowhere
    position_before h = omega (arith, but_before 0 at k j h held)

    pub position_behind : j < k → at < j → j - 1 ≡ get_or (positions_but 0 at k) j nowhere
    position_behind l h = omega (arith, but_behind 0 at k j h l)

    pub position_here : at ≤ j → j ≤ at → nowhere ≡ get_or (positions_but 0 at k) j nowhere
    position_here h l =
        let z : j ≡ at = omega arith in
        rw z (sym (but_here 0 at k held))
