-- The index after a record is added: along it the keys rise, and it has one position more. Assumes nothing.
use mathlib.Core.Path.{◌≡◌, refl, sym, ap}
use mathlib.Core.Logic.{◌≢◌}
use mathlib.Core.Bool.{Bool, true, false, cond}
use mathlib.Core.List.{List, [], ◌∷◌, ◌++◌}
use Prim.Native.Nat.{ℕ, zero, suc, ◌+◌, ◌≤◌, ◌<◌}
use native.Mathlib.Omega.{arith}
use lib.Dec.{ltb}
use lib.ListN.{length, get_or, length-append, get_or-append}
use lib.Seq.{get_or-append_seam}
use borrow.Author.Tests.{ltb-true, ltb-false}
use Rattle.config.proofs.Lists.{All}
use Rattle.table.specs.declared.TemplateRecord.{TemplateRecord}
use Rattle.table.specs.WellFormed.{key_at, index_rises}
use Rattle.table_records.specs.Add.{inserted}
use Rattle.table_records.proofs.Rises.{Rises, rises_none, rises_says, rises_holds}

pub length_inserted : (rs : List TemplateRecord) (key k : ℕ) (is : List ℕ) →
    length (inserted rs key k is) ≡ suc (length is)
unfolding inserted
length_inserted rs key k [] = refl
length_inserted rs key k (i ∷ is) = by_key (ltb key (key_at rs i)) (length_inserted rs key k is)
  where
    by_key : (t : Bool) → length (inserted rs key k is) ≡ suc (length is) →
        length (cond t (k ∷ i ∷ is) (i ∷ inserted rs key k is)) ≡ suc (suc (length is))
    by_key true e = refl
    by_key false e = ap suc e

-- what holds of each holds at each place
each_by_place : {A : Type 0} (P : A → Type 0) (d : A) (xs : List A) → All P xs → (i : ℕ) → i < length xs →
    P (get_or xs i d)
each_by_place P d [] a i h = absurd (omega arith)
each_by_place P d (x ∷ xs) a zero h = a.0
each_by_place P d (x ∷ xs) a (suc i) h = each_by_place P d xs a.1 i (omega arith)

module _ (rs : List TemplateRecord) (r : TemplateRecord) where
  abbrev more : List TemplateRecord
  more = rs ++ (r ∷ [])

  one_more : length more ≡ length rs + 1
  one_more = length-append rs (r ∷ [])

  same_key : (i : ℕ) → i < length rs → key_at more i ≡ key_at rs i
  same_key i h = ap (λ (u : TemplateRecord). u.key) (get_or-append rs (r ∷ []) _ i h)

  last_key : key_at more (length rs) ≡ r.key
  last_key = ap (λ (u : TemplateRecord). u.key) (get_or-append_seam rs r [] _)

  -- positions of the first records do not see another
  rises_more : (low : ℕ) (is : List ℕ) → index_rises rs low is ≡ true → index_rises more low is ≡ true
  rises_more low [] t = rises_none more low
  rises_more low (i ∷ is) t =
      let first = rises_says rs low i is t in
      let e = same_key i first.known in
      rises_holds more low i is record {
        known = omega (arith, first.known, one_more);
        above = omega (arith, first.above, e);
        rest = rw e (rises_more (key_at rs i + 1) is first.rest);
      }

  module _ (new : (i : ℕ) → i < length rs → key_at rs i ≢ r.key) where
    added_rises : (low : ℕ) (is : List ℕ) → low ≤ r.key → index_rises rs low is ≡ true →
        index_rises more low (inserted rs r.key (length rs) is) ≡ true
    unfolding inserted
    added_rises low [] h t =
        rises_holds more low (length rs) [] record {
          known = omega (arith, one_more);
          above = omega (arith, last_key);
          rest = rises_none more (key_at more (length rs) + 1);
        }
    added_rises low (i ∷ is) h t =
        by_key (ltb r.key (key_at rs i)) refl
        (λ b. added_rises (key_at rs i + 1) is b first.rest)
      where
        first : Rises rs low i is
        first = rises_says rs low i is t

        by_key : (q : Bool) → ltb r.key (key_at rs i) ≡ q →
            (key_at rs i + 1 ≤ r.key → index_rises more (key_at rs i + 1) (inserted rs r.key (length rs) is) ≡ true) →
            index_rises more low (cond q (length rs ∷ i ∷ is) (i ∷ inserted rs r.key (length rs) is)) ≡ true
        by_key true e f =
            let above : r.key < key_at rs i = ltb-true r.key (key_at rs i) e in
            rises_holds more low (length rs) (i ∷ is) record {
              known = omega (arith, one_more);
              above = omega (arith, last_key);
              rest = rises_holds more (key_at more (length rs) + 1) i is record {
                known = omega (arith, first.known, one_more);
                above = omega (arith, last_key, same_key i first.known);
                rest = rw (same_key i first.known) (rises_more (key_at rs i + 1) is first.rest);
              };
            }
        by_key false e f =
            let below : key_at rs i ≤ r.key = ltb-false r.key (key_at rs i) e in
            let d : key_at rs i ≢ r.key = new i first.known in
            rises_holds more low i (inserted rs r.key (length rs) is) record {
              known = omega (arith, first.known, one_more);
              above = omega (arith, first.above, same_key i first.known);
              rest = rw (same_key i first.known) (f (omega (arith, below, d)));
            }

pub index_after_adding : (rs : List TemplateRecord) (r : TemplateRecord) (is : List ℕ) →
    index_rises rs 0 is ≡ true → All (λ u. r.key ≢ u.key) rs →
    (index_rises (rs ++ (r ∷ [])) 0 (inserted rs r.key (length rs) is) ≡ true)
    × (length (inserted rs r.key (length rs) is) ≡ suc (length is))
index_after_adding rs r is t new = (
  added_rises rs r (λ i h e. each_by_place (λ u. r.key ≢ u.key) _ rs new i h (sym e)) 0 is (omega arith) t,
  length_inserted rs r.key (length rs) is,
)
