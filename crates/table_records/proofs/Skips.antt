-- What each label has after a pass that sets something for each record. Assumes nothing.
use mathlib.Core.Path.{◌≡◌, refl, sym, ap, ◌∙◌}
use mathlib.Core.Bool.{Bool, true, false, ◌||◌, cond}
use mathlib.Core.List.{List, [], ◌∷◌}
use Prim.Native.Nat.{ℕ, ◌-◌, ◌<◌}
use native.Mathlib.Omega.{arith}
use lib.Dec.{eqb}
use lib.ListN.{length, get_or, set, length-set}
use lib.Seq.{get_or-set_same, get_or-set_other}
use borrow.Author.Tests.{eqb-true, eqb-false}
use Rattle.config.proofs.Lists.{All, all_of}
use Rattle.table.specs.declared.TemplateRecord.{TemplateRecord}
use Rattle.table.specs.Table.{has_label}
use Rattle.table_records.specs.Choose.{skip_all, set_each, skipping, skipping_over}

pub length_each : (f : TemplateRecord → ℕ) (sums : List ℕ) (rs : List TemplateRecord) →
    length (set_each f sums rs) ≡ length sums
unfolding set_each
length_each f sums [] = refl
length_each f sums (r ∷ rs) = length_each f (set sums r.label (f r)) rs ∙ length-set sums r.label (f r)

pub length_skipping : (skip : List ℕ) (rs : List TemplateRecord) → length (skipping skip rs) ≡ length skip
length_skipping = length_each (λ r. skip_all)

pub length_skipping_over : (cap : ℕ) (counts skip : List ℕ) (rs : List TemplateRecord) →
    length (skipping_over cap counts skip rs) ≡ length skip
length_skipping_over cap counts = length_each (λ r. get_or counts r.label 0 - cap)

-- one label more: `v` is what label k has once a record has it, `u` what the record's label has
one_more : (skip : List ℕ) (label u k v : ℕ) (t : Bool) → k < length skip → (k ≡ label → u ≡ v) →
    cond t v (get_or (set skip label u) k 0) ≡ cond (eqb k label || t) v (get_or skip k 0)
one_more skip label u k v t h same = by_label (eqb k label) refl t
  where
    by_label : (s : Bool) → eqb k label ≡ s → (t : Bool) →
        cond t v (get_or (set skip label u) k 0) ≡ cond (s || t) v (get_or skip k 0)
    by_label true e true = refl
    by_label true e false =
        let z : k ≡ label = eqb-true k label e in
        ap (λ (j : ℕ). get_or (set skip label u) j 0) z
        ∙ get_or-set_same skip label u 0 (omega arith)
        ∙ same z
    by_label false e true = refl
    by_label false e false = get_or-set_other skip label k u 0 (eqb-false k label e)

module _ (k : ℕ) where
  -- v is what f says of a record with the label k
  pub each_at : (f : TemplateRecord → ℕ) (v : ℕ) (sums : List ℕ) (rs : List TemplateRecord) → k < length sums →
      All (λ r. k ≡ r.label → f r ≡ v) rs → get_or (set_each f sums rs) k 0 ≡ cond (has_label k rs) v (get_or sums k 0)
  unfolding set_each
  each_at f v sums [] h same = refl
  each_at f v sums (r ∷ rs) h same =
      each_at f v (set sums r.label (f r)) rs (omega (arith, length-set sums r.label (f r))) same.1
      ∙ one_more sums r.label (f r) k v (has_label k rs) h same.0

  pub skipping_at : (skip : List ℕ) (rs : List TemplateRecord) → k < length skip →
      get_or (skipping skip rs) k 0 ≡ cond (has_label k rs) skip_all (get_or skip k 0)
  skipping_at skip rs h = each_at (λ r. skip_all) skip_all skip rs h (all_of _ rs (λ r e. refl))

  pub skipping_over_at : (cap : ℕ) (counts skip : List ℕ) (rs : List TemplateRecord) → k < length skip →
      get_or (skipping_over cap counts skip rs) k 0 ≡ cond (has_label k rs) (get_or counts k 0 - cap) (get_or skip k 0)
  skipping_over_at cap counts skip rs h =
      each_at (λ r. get_or counts r.label 0 - cap) (get_or counts k 0 - cap) skip rs h
      (all_of _ rs (λ r e. ap (λ (j : ℕ). get_or counts j 0 - cap) (sym e)))
