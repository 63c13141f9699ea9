-- Closing twice is closing once, where nothing is left in the second closing of what the first one empties.
-- Assumes nothing.
use mathlib.Core.Path.{◌≡◌, refl, sym, ap, ◌∙◌}
use mathlib.Core.Bool.{Bool, true, false, cond}
use mathlib.Core.List.{List, [], ◌∷◌}
use Prim.Native.Nat.{ℕ, zero, suc, ◌+◌, ◌*◌, ◌-◌, ◌≤◌, ◌<◌}
use native.Mathlib.Omega.{arith}
use lib.Dec.{ltb}
use lib.ListN.{length, get_or, get_or-eq_default}
use borrow.Author.Tests.{ltb-true, ltb-false}
use Rattle.config.specs.Limits.{record_words}
use Rattle.config.proofs.Lists.{All}
use Rattle.areas.proofs.Puts.{drop_more}
use Rattle.table.specs.declared.TemplateRecord.{TemplateRecord}
use Rattle.table.specs.Table.{records_from, index_from}
use Rattle.table.specs.WellFormed.{index_rises}
use Rattle.table.proofs.Words.{length_records, length_index}
use Rattle.table_records.specs.Close.{recounted, remains, closed, nowhere, positions, remapped, Closes}
use Rattle.table_records.proofs.ClosedIndex.{closed_index_long}

-- `first` and `second` say how many bodies each label has left
module _ (first second : List ℕ) where
  -- what the first closing empties has nothing left in the second
  abbrev pub Emptied : TemplateRecord → Type 0
  Emptied r = get_or first r.label 0 ≡ 0 → get_or second r.label 0 ≡ 0

  emptied_goes : (r : TemplateRecord) → Emptied r → remains first r ≡ false → remains second r ≡ false
  emptied_goes r h e =
      let none : get_or first r.label 0 ≤ 0 = ltb-false 0 (get_or first r.label 0) e in
      rw (h (omega arith))

  closed_twice : (rs : List TemplateRecord) → All Emptied rs → closed second (closed first rs) ≡ closed second rs
  unfolding closed
  closed_twice [] a = refl
  closed_twice (r ∷ rs) a = by_test (remains first r) refl (closed_twice rs a.1)
    where
      by_test : (t : Bool) → remains first r ≡ t → closed second (closed first rs) ≡ closed second rs →
          closed second (cond t (recounted first r ∷ closed first rs) (closed first rs)) ≡ closed second (r ∷ rs)
      by_test true e ih = rw ih
      by_test false e ih = rw (emptied_goes r a.0 e) ih

  -- the new positions s and t of a record, by the first closing and by the second alone
  record Twice (n m : ℕ) (rs : List TemplateRecord) (s t : ℕ) : Type 0 where
    pub nowhere_by_both : nowhere ≤ s → t ≡ nowhere
    pub low : s < nowhere → n ≤ s
    pub stays : s < nowhere → get_or (positions second m (closed first rs)) (s - n) nowhere ≡ t

  twice : (n m : ℕ) (rs : List TemplateRecord) → All Emptied rs → n + length rs ≤ nowhere → (i : ℕ) →
      Twice n m rs (get_or (positions first n rs) i nowhere) (get_or (positions second m rs) i nowhere)
  unfolding closed positions
  twice n m [] a l i =
      let z : get_or {A = ℕ} [] i nowhere ≡ nowhere = get_or-eq_default {A = ℕ} [] nowhere {n = i} (omega arith) in
      rw z record { nowhere_by_both = λ _. refl; low = λ h. absurd (omega arith); stays = λ h. absurd (omega arith) }
  twice n m (r ∷ rs) a l zero = by_test (remains first r) refl
    where
      by_test : (t : Bool) → remains first r ≡ t →
          Twice n m (r ∷ rs) (cond t n nowhere) (cond (remains second r) m nowhere)
      by_test true e =
          let z : n - n ≡ 0 = omega arith in
          record { nowhere_by_both = λ h. absurd (omega arith); low = λ h. omega arith; stays = λ h. rw (e, z) }
      by_test false e =
          record {
            nowhere_by_both = λ h. rw (emptied_goes r a.0 e);
            low = λ h. absurd (omega arith);
            stays = λ h. absurd (omega arith);
          }
  twice n m (r ∷ rs) a l (suc i) =
      by_test (remains first r) refl (twice (n + 1) m' rs a.1 (omega arith) i) (twice n m' rs a.1 (omega arith) i)
    where
      m' : ℕ
      m' = cond (remains second r) (m + 1) m

      by_test : (t : Bool) → remains first r ≡ t →
          Twice (n + 1) m' rs (get_or (positions first (n + 1) rs) i nowhere)
          (get_or (positions second m' rs) i nowhere) →
          Twice n m' rs (get_or (positions first n rs) i nowhere) (get_or (positions second m' rs) i nowhere) →
          Twice n m (r ∷ rs) (get_or (positions first (cond t (n + 1) n) rs) i nowhere)
          (get_or (positions second m' rs) i nowhere)
      by_test true e one same =
          let s = get_or (positions first (n + 1) rs) i nowhere in
          record {
            nowhere_by_both = one.nowhere_by_both;
            low = λ h. omega (arith, one.low h);
            stays = λ h.
                let z : s - n ≡ suc (s - (n + 1)) = omega (arith, one.low h) in
                rw (e, z) (one.stays h);
          }
      by_test false e one same =
          let s = get_or (positions first n rs) i nowhere in
          let z : m ≡ m' = rw (emptied_goes r a.0 e) in
          let from-there : get_or (positions second m (closed first rs)) (s - n) nowhere
          ≡ get_or (positions second m' (closed first rs)) (s - n) nowhere =
          ap (λ (j : ℕ). get_or (positions second j (closed first rs)) (s - n) nowhere) z in
          record {
            nowhere_by_both = same.nowhere_by_both;
            low = same.low;
            stays = λ h. rw e (from-there ∙ same.stays h);
          }

  remapped_twice : (rs : List TemplateRecord) → All Emptied rs → length rs ≤ nowhere → (is : List ℕ) →
      remapped (positions second 0 (closed first rs)) (remapped (positions first 0 rs) is)
      ≡ remapped (positions second 0 rs) is
  unfolding remapped
  remapped_twice rs a l [] = refl
  remapped_twice rs a l (i ∷ is) =
      by_place (ltb s nowhere) refl (remapped_twice rs a l is) (twice 0 0 rs a (omega arith) i)
    where
      s : ℕ
      s = get_or (positions first 0 rs) i nowhere

      t : ℕ
      t = get_or (positions second 0 rs) i nowhere

      again : List ℕ
      again = positions second 0 (closed first rs)

      by_place : (q : Bool) → ltb s nowhere ≡ q →
          remapped again (remapped (positions first 0 rs) is) ≡ remapped (positions second 0 rs) is →
          Twice 0 0 rs s t → remapped again
          (cond q (s ∷ remapped (positions first 0 rs) is) (remapped (positions first 0 rs) is))
          ≡ cond (ltb t nowhere) (t ∷ remapped (positions second 0 rs) is) (remapped (positions second 0 rs) is)
      by_place true e ih both =
          let z : s - 0 ≡ s = omega arith in
          let there : get_or again s nowhere ≡ t = rw z at (both.stays (ltb-true s nowhere e)) in
          rw (there, ih)
      by_place false e ih both = rw (both.nowhere_by_both (ltb-false s nowhere e)) ih

  module _ {p k n : ℕ} {w w₁ : List ℕ} (emptied : All Emptied (records_from w p k)) (few : k ≤ nowhere)
      (rises : index_rises (records_from w p k) 0 (index_from w p k) ≡ true) (a : Closes p k first w w₁ n) where
    -- as many index words as records
    pub index_between : index_from w₁ p n ≡ remapped (positions first 0 (records_from w p k)) (index_from w p k)
    index_between =
        let rs = records_from w p k in
        let is = index_from w p k in
        let long : length (remapped (positions first 0 rs) is) ≡ n =
        closed_index_long first rs is rises (length_index w p k ∙ sym (length_records w p k))
        (omega (arith, length_records w p k))
        ∙ sym (ap length a.records)
        ∙ length_records w₁ p n in
        ap (index_from w₁ p) (sym long) ∙ a.index

    pub closes_twice : {n' : ℕ} {w₂ : List ℕ} → Closes p n second w₁ w₂ n' → Closes p k second w w₂ n'
    closes_twice {w₂ = w₂} b =
        let rs = records_from w p k in
        record {
          few = omega (arith, a.few, b.few);
          records = b.records ∙ ap (closed second) a.records ∙ closed_twice rs emptied;
          index = rw (
            a.records,
            index_between,
            remapped_twice rs emptied (omega (arith, length_records w p k)) (index_from w p k),
          ) at b.index;
          head = b.head ∙ a.head;
          tail = drop_more (p + record_words * k) (p + record_words * n) w₂ w₁ (omega (arith, a.few)) b.tail
              ∙ a.tail;
        }
