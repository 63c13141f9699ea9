-- The record of a label is taken off, where there is one: the steps of the code, and that it is a closing in which only
-- that label has nothing left. Assumes nothing.
use Rattle.std.specs.Prelude.{Option, Some, None}
use mathlib.Core.Path.{◌≡◌, refl}
use mathlib.Core.Bool.{Bool, true, false}
use mathlib.Core.List.{List}
use Prim.Native.Nat.{ℕ, ◌-◌, ◌≤◌, ◌<◌}
use native.Mathlib.Omega.{arith}
use lib.Dec.{ltb}
use borrow.Author.Tests.{ltb-true, ltb-false}
use Rattle.config.proofs.Lists.{All}
use Rattle.table.specs.declared.TemplateRecord.{TemplateRecord}
use Rattle.table.specs.Table.{records_from, index_from}
use Rattle.table.specs.Parts.{templates_of}
use Rattle.table.specs.WellFormed.{index_rises}
use Rattle.table.proofs.Facts.{Differ}
use Rattle.table_records.specs.Close.{nowhere, Closes}
use Rattle.table.proofs.Words.{length_records}
use Rattle.table_records.specs.Take.{place_of, found_place, TakesOff}
use Rattle.table_records.proofs.Places.{place_told, no_place_told}
use Rattle.table_records.proofs.Taken.{LeftBut, taken_closes, none_closes}
use Rattle.table_promotion.specs.declared.taking.Taken.{Taken}
use Rattle.table_promotion.specs.Taking.{TakesLabel}

module _ (label p k : ℕ) (w : List ℕ) where
  abbrev rs : List TemplateRecord
  rs = records_from w p k

  module _ (parts : List (List ℕ)) (read : templates_of parts ≡ rs) {x : Option ℕ}
      (told : x ≡ found_place label (templates_of parts)) where
    sought : x ≡ found_place label rs
    sought = rw read at told

    pub none_taken : x ≡ None → TakesLabel label p k w w (record { records = k; bodies = 0 })
    none_taken none =
        let past = no_place_told label rs sought none in
        record { none = λ _. (refl, refl, refl); one = λ h. absurd (omega (arith, past, length_records w p k)) }

    module _ {at : ℕ} (some : x ≡ Some at) where
      place_within : at < k
      place_within = omega (arith, place_told label rs sought at some, length_records w p k)

      pub one_taken : {bodies : ℕ} {w' : List ℕ} → TakesOff p k at w w' bodies →
          TakesLabel label p k w w' (record { records = k - 1; bodies = bodies })
      one_taken taken =
          let placed = (place_told label rs sought at some).0 in
          record {
            none = λ h. absurd (omega (arith, placed, place_within));
            one = λ _. (rw placed at taken, refl);
          }

  -- with a record of the label or without
  pub taken_few : {w' : List ℕ} {r : Taken} → TakesLabel label p k w w' r → r.records ≤ k
  taken_few {r = r} t = by_place (ltb (place_of label rs) k) refl
    where
      by_place : (q : Bool) → ltb (place_of label rs) k ≡ q → r.records ≤ k
      by_place true e = omega (arith, (t.one (ltb-true (place_of label rs) k e)).1)
      by_place false e = omega (arith, (t.none (ltb-false (place_of label rs) k e)).1)

  pub label_closes : {kept w' : List ℕ} {r : Taken} → Differ (λ u. u.label) rs → All (LeftBut kept label) rs →
      k ≤ nowhere → index_rises rs 0 (index_from w p k) ≡ true → TakesLabel label p k w w' r →
      Closes p k kept w w' r.records
  label_closes {kept} {w'} {r} differ counts few rises t = by_place (ltb (place_of label rs) k) refl
    where
      by_place : (q : Bool) → ltb (place_of label rs) k ≡ q → Closes p k kept w w' r.records
      by_place true e =
          let done = t.one (ltb-true (place_of label rs) k e) in
          rw done.1
          (taken_closes kept label p k w differ counts (place_of label rs) r.bodies w' refl done.0)
      by_place false e =
          let past = ltb-false (place_of label rs) k e in
          let done = t.none past in
          rw (done.0, done.1) (none_closes kept label p k w differ counts few rises past)
