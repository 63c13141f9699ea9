-- The greatest label of the records, and that the next one is free. Assumes nothing.
use mathlib.Core.Path.{◌≡◌, refl}
use mathlib.Core.Bool.{Bool, true, false, cond}
use mathlib.Core.List.{List, [], ◌∷◌}
use Prim.Native.Nat.{ℕ, max, ◌+◌, ◌≤◌, ◌<◌}
use native.Mathlib.Omega.{arith}
use lib.Dec.{ltb}
use lib.ListN.{length}
use borrow.Author.Tests.{lt-ltb, ne_eqb}
use Rattle.std.specs.List.{fold}
use Rattle.std.proofs.lemmas.List.{length-map}
use Rattle.table.specs.declared.TemplateRecord.{TemplateRecord}
use Rattle.table.specs.Table.{has_label}
use Rattle.table.specs.Parts.{template_of, templates_of}
use Rattle.table_records.specs.Choose.{greatest_label, last_label, FreeLabel}

-- the greatest label, at least `most`
abbrev greatest_from : ℕ → List TemplateRecord → ℕ
greatest_from most rs = fold (λ m r. max m r.label) most rs

greatest_most : (most : ℕ) (rs : List TemplateRecord) → most ≤ greatest_from most rs
greatest_most most [] = omega arith
greatest_most most (r ∷ rs) = omega (arith, greatest_most (max most r.label) rs)

-- no record has a greater one
above_absent : (most k : ℕ) (rs : List TemplateRecord) → greatest_from most rs < k → has_label k rs ≡ false
above_absent most k [] h = refl
above_absent most k (r ∷ rs) h =
    let here : r.label < k = omega (arith, greatest_most (max most r.label) rs) in
    rw (ne_eqb k r.label (λ e. omega arith)) (above_absent (max most r.label) k rs h)

-- the last label that is taken as the next one
last_of_few : (n : ℕ) → n < 32 → 31 ≡ last_label n
unfolding last_label
last_of_few n h = rw (lt-ltb n 32 h)

last_within : (n : ℕ) → last_label n ≤ 1023
unfolding last_label
last_within n = by_number (ltb n 32)
  where
    by_number : (few : Bool) → cond few 31 1023 ≤ 1023
    by_number true = omega arith
    by_number false = omega arith

pub next_free : (parts : List (List ℕ)) (k : ℕ) → k ≡ greatest_label (templates_of parts) → (last : ℕ) →
    last ≡ last_label (length parts) → k < last → FreeLabel (templates_of parts) (k + 1)
next_free parts k is last told h = record {
  below = omega (arith, last_within (length parts));
  few = λ few. omega (arith, last_of_few (length parts) (omega (arith, length-map parts template_of)));
  absent = above_absent 0 (k + 1) (templates_of parts) (omega (arith, is));
}
