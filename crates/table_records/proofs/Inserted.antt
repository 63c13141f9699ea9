-- Where a position goes in an index along which the keys rise. Assumes nothing.
use mathlib.Core.Path.{◌≡◌, refl, ap}
use mathlib.Core.Bool.{Bool, true, false, cond}
use mathlib.Core.List.{List, [], ◌∷◌, ◌++◌}
use Prim.Native.Nat.{ℕ, ◌+◌, ◌≤◌, ◌<◌}
use native.Mathlib.Omega.{arith}
use lib.Dec.{ltb}
use borrow.Author.Tests.{lt-ltb, le-ltb}
use Rattle.table.specs.declared.TemplateRecord.{TemplateRecord}
use Rattle.table.specs.WellFormed.{key_at, index_rises}
use Rattle.table_records.specs.Add.{inserted}
use Rattle.table_records.proofs.Rises.{rises_says}

module _ (rs : List TemplateRecord) where
  -- a later key is above
  later_above : (low : ℕ) (front : List ℕ) (i : ℕ) (back : List ℕ) → index_rises rs low (front ++ (i ∷ back)) ≡ true →
      low ≤ key_at rs i
  later_above low [] i back t = (rises_says rs low i back t).above
  later_above low (j ∷ front) i back t =
      let first = rises_says rs low j (front ++ (i ∷ back)) t in
      omega (arith, first.above, later_above (key_at rs j + 1) front i back first.rest)

  module _ (key k : ℕ) where
    -- before a greater key nothing else matters
    pub insert_before : (front : List ℕ) (i : ℕ) → key < key_at rs i →
        inserted rs key k (front ++ (i ∷ [])) ≡ inserted rs key k front ++ (i ∷ [])
    unfolding inserted
    insert_before [] i h = rw (lt-ltb key (key_at rs i) h)
    insert_before (j ∷ front) i h = by_key (ltb key (key_at rs j)) (insert_before front i h)
      where
        by_key : (t : Bool) → inserted rs key k (front ++ (i ∷ [])) ≡ inserted rs key k front ++ (i ∷ []) →
            cond t (k ∷ j ∷ (front ++ (i ∷ []))) (j ∷ inserted rs key k (front ++ (i ∷ [])))
            ≡ cond t (k ∷ j ∷ front) (j ∷ inserted rs key k front) ++ (i ∷ [])
        by_key true e = refl
        by_key false e = ap (λ (l : List ℕ). j ∷ l) e

    -- it goes behind a key that is not greater, and so behind all before that
    pub insert_behind : (low : ℕ) (front : List ℕ) (i : ℕ) (back : List ℕ) →
        index_rises rs low (front ++ (i ∷ back)) ≡ true → key_at rs i ≤ key →
        inserted rs key k (front ++ (i ∷ [])) ≡ front ++ (i ∷ k ∷ [])
    unfolding inserted
    insert_behind low [] i back t h = rw (le-ltb key (key_at rs i) h)
    insert_behind low (j ∷ front) i back t h =
        let rest = (rises_says rs low j (front ++ (i ∷ back)) t).rest in
        let below : key_at rs j ≤ key = omega (arith, later_above (key_at rs j + 1) front i back rest) in
        rw (le-ltb key (key_at rs j) below)
        (ap (λ (l : List ℕ). j ∷ l) (insert_behind (key_at rs j + 1) front i back rest h))
