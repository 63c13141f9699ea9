-- Taking a record off, from its passes; and that it is a closing in which only the label of that record has nothing
-- left. Assumes nothing.
use mathlib.Core.Path.{◌≡◌, refl, sym, ap, ◌∙◌}
use mathlib.Core.Logic.{◌≢◌}
use mathlib.Core.Bool.{Bool, true, false, cond}
use mathlib.Core.List.{List, [], ◌∷◌, ◌++◌}
use Prim.Native.Nat.{ℕ, suc, ◌+◌, ◌*◌, ◌-◌, ◌≤◌, ◌<◌}
use native.Mathlib.Omega.{arith}
use lib.Dec.{eqb}
use lib.ListN.{length, get_or}
use borrow.Author.Tests.{eqb-true, ne_eqb, lt-ltb}
use Rattle.config.specs.Limits.{record_words}
use Rattle.config.proofs.Lists.{All, all_map, all_both}
use Rattle.table.specs.declared.TemplateRecord.{TemplateRecord}
use Rattle.table.specs.Table.{record_at, records_from, index_from}
use Rattle.table.specs.WellFormed.{key_at, index_rises}
use Rattle.table.proofs.Words.{records_first, length_records, length_index}
use Rattle.table.proofs.Facts.{Differ}
use Rattle.table_records.specs.Close.{closed, nowhere, positions, remapped, Closes}
use Rattle.table_records.specs.Take.{place_of, without_at, count_up, positions_but, capped_count, TakesOff}
use Rattle.table_records.specs.Passes.{MovesUp, ClosesIndex}
use Rattle.table_records.proofs.Frames.{records_add, index_same}
use Rattle.table_records.proofs.Rises.{Rises, rises_says}
use Rattle.table_records.proofs.Places.{place_absent, without_between, up_at}
use Rattle.table_records.proofs.MovesUp.{apart_from}

-- ---- the passes

apart_is : (w : List ℕ) (p k at : ℕ) → at < k → apart_from w p k at ≡ without_at at (records_from w p k)
apart_is w p k at h =
    let q = p + record_words * at in
    let n = k - at in
    let both : at + n ≡ k = omega arith in
    let e : q + record_words ≡ p + record_words * (at + 1) = omega arith in
    let m : n - 1 ≡ k - 1 - at = omega arith in
    let split : records_from w p k
    ≡ records_from w p at ++ (record_at w q ∷ records_from w (p + record_words * (at + 1)) (k - 1 - at)) =
    ap (records_from w p) (sym both)
    ∙ records_add w p at n
    ∙ rw (records_first w q n (omega arith) (record_at w q) refl, e, m) in
    rw split
    (sym (ap (λ (i : ℕ). without_at i (records_from w p at
    ++ (record_at w q ∷ records_from w (p + record_words * (at + 1)) (k - 1 - at)))) (sym (length_records w p at))
    ∙ without_between (records_from w p at) (record_at w q) (records_from w (p + record_words * (at + 1))
    (k - 1 - at))))

pub passes_take : (p k at n : ℕ) (w w' w'' : List ℕ) (r : TemplateRecord) → at < k →
    r ≡ record_at w (p + record_words * at) → MovesUp p k at w w' → ClosesIndex p k (positions_but 0 at k) w' w'' →
    n ≡ capped_count r.count → TakesOff p k at w w'' n
passes_take p k at n w w' w'' r h is a b counts =
    let old : index_from w' p k ≡ index_from w p k = index_same w' w p k (λ i q l e. rw e (a.same i)) in
    record {
      counted = counts ∙ rw is;
      records = b.same (k - 1) ∙ a.records ∙ apart_is w p k at h;
      index = rw old at b.index;
      head = b.head ∙ a.head;
      tail = b.tail ∙ a.tail;
    }

-- ---- as a closing: `kept` has what each record counts, and 0 for one label

module _ (kept : List ℕ) where
  -- all that a record counts is left
  abbrev Whole : TemplateRecord → Type 0
  Whole r = (get_or kept r.label 0 ≡ r.count) × (0 < r.count)

  closed_whole : (rs : List TemplateRecord) → All Whole rs → closed kept rs ≡ rs
  unfolding closed
  closed_whole [] a = refl
  closed_whole (r ∷ rs) a =
      let some : 0 < r.count = a.0.1 in
      rw (a.0.0, lt-ltb 0 r.count some, closed_whole rs a.1)

  positions_whole : (n : ℕ) (rs : List TemplateRecord) → All Whole rs → positions kept n rs ≡ count_up n (length rs)
  unfolding positions count_up
  positions_whole n [] a = refl
  positions_whole n (r ∷ rs) a =
      let some : 0 < r.count = a.0.1 in
      rw (a.0.0, lt-ltb 0 r.count some, positions_whole (n + 1) rs a.1)

  module _ (label : ℕ) where
    -- what a record counts is left, but nothing where it has the label
    abbrev pub LeftBut : TemplateRecord → Type 0
    LeftBut r = (get_or kept r.label 0 ≡ cond (eqb label r.label) 0 r.count) × (0 < r.count)

    others_whole : (rs : List TemplateRecord) → All (λ u. label ≢ u.label) rs → All LeftBut rs → All Whole rs
    others_whole rs d a =
        all_both (λ u. label ≢ u.label) LeftBut Whole (λ u x y. (y.0 ∙ rw (ne_eqb label u.label x), y.1)) rs d a

    -- both lists, without the record of the label
    closed_but : (n : ℕ) (rs : List TemplateRecord) → Differ (λ r. r.label) rs → All LeftBut rs →
        (closed kept rs ≡ without_at (place_of label rs) rs)
        × (positions kept n rs ≡ positions_but n (place_of label rs) (length rs))
    unfolding closed positions place_of without_at positions_but
    closed_but n [] d a = (refl, refl)
    closed_but n (r ∷ rs) d a =
        by_label (eqb label r.label) refl a.0.0 (closed_but (n + 1) rs d.1 a.1)
      where
        some : 0 < r.count
        some = a.0.1

        by_label : (t : Bool) → eqb label r.label ≡ t → get_or kept r.label 0 ≡ cond t 0 r.count →
            (closed kept rs ≡ without_at (place_of label rs) rs)
            × (positions kept (n + 1) rs ≡ positions_but (n + 1) (place_of label rs) (length rs)) →
            (closed kept (r ∷ rs) ≡ without_at (cond t 0 (suc (place_of label rs))) (r ∷ rs))
            × (positions kept n (r ∷ rs) ≡ positions_but n (cond t 0 (suc (place_of label rs))) (suc (length rs)))
        by_label true e z ih =
            let same : label ≡ r.label = eqb-true label r.label e in
            let others = others_whole rs
            (all_map (λ u. r.label ≢ u.label) (λ u. label ≢ u.label) (λ u x y. x (sym same ∙ y)) rs d.0) a.1 in
            (rw z (closed_whole rs others), rw (z, positions_whole n rs others))
        by_label false e z ih = (rw (z, lt-ltb 0 r.count some, ih.0), rw (z, lt-ltb 0 r.count some, ih.1))

    module _ (p k : ℕ) (w : List ℕ) where
      abbrev rs : List TemplateRecord
      rs = records_from w p k

      module _ (differ : Differ (λ r. r.label) rs) (counts : All LeftBut rs) where
        -- a record has the label
        pub taken_closes : (at n : ℕ) (w' : List ℕ) → at ≡ place_of label rs → TakesOff p k at w w' n →
            Closes p k kept w w' (k - 1)
        taken_closes at n w' is t =
            let both = closed_but 0 rs differ counts in
            let ps : positions kept 0 rs ≡ positions_but 0 at k = both.1 ∙ rw (length_records w p k, is) in
            record {
              few = omega arith;
              records = t.records ∙ rw is (sym both.0);
              index = rw ps t.index;
              head = t.head;
              tail = t.tail;
            }

        -- none has it
        module _ (few : k ≤ nowhere) (rises : index_rises rs 0 (index_from w p k) ≡ true) where
          up_same : (low : ℕ) (is : List ℕ) → index_rises rs low is ≡ true → remapped (count_up 0 k) is ≡ is
          unfolding remapped
          up_same low [] t = refl
          up_same low (i ∷ is) t =
              let first : Rises rs low i is = rises_says rs low i is t in
              let known : i < k = omega (arith, first.known, length_records w p k) in
              let there : get_or (count_up 0 k) i nowhere ≡ i = omega (arith, up_at 0 k i known) in
              rw (there, lt-ltb i nowhere (omega arith), up_same (key_at rs i + 1) is first.rest)

          pub none_closes : k ≤ place_of label rs → Closes p k kept w w k
          none_closes absent =
              let whole = others_whole rs (place_absent label rs (omega (arith, length_records w p k))) counts in
              let ps : positions kept 0 rs ≡ count_up 0 k = positions_whole 0 rs whole ∙ rw (length_records w p k) in
              let same : remapped (positions kept 0 rs) (index_from w p k) ≡ index_from w p k =
              rw ps (up_same 0 (index_from w p k) rises) in
              record {
                few = omega arith;
                records = sym (closed_whole rs whole);
                index = rw (same, length_index w p k);
                head = refl;
                tail = refl;
              }
