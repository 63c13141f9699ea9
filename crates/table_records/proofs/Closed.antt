-- What closing leaves of the records: keys and labels that differ, facts of both, and which labels there are.
-- Assumes nothing.
use mathlib.Core.Path.{◌≡◌, refl, sym, ap, ◌∙◌}
use mathlib.Core.Logic.{◌≢◌}
use mathlib.Core.Bool.{Bool, true, false, ◌&&◌, ◌||◌, cond, and-false}
use mathlib.Core.List.{List, [], ◌∷◌}
use Prim.Native.Nat.{ℕ, ◌<◌}
use lib.Dec.{eqb, ltb}
use lib.ListN.{get_or}
use borrow.Author.Tests.{eqb-true, ltb-true}
use Rattle.config.proofs.Lists.{All}
use Rattle.table.specs.declared.TemplateRecord.{TemplateRecord}
use Rattle.table.specs.Table.{has_label}
use Rattle.table.proofs.Facts.{Differ}
use Rattle.table_records.specs.Close.{recounted, remains, closed}

module _ (kept : List ℕ) where
  -- what holds of each record that remains
  pub closed_all : (P Q : TemplateRecord → Type 0) →
      ((r : TemplateRecord) → P r → 0 < get_or kept r.label 0 → Q (recounted kept r)) → (rs : List TemplateRecord) →
      All P rs → All Q (closed kept rs)
  unfolding closed
  closed_all P Q f [] a = tt
  closed_all P Q f (r ∷ rs) a = by_test (remains kept r) refl (closed_all P Q f rs a.1)
    where
      by_test : (x : Bool) → remains kept r ≡ x → All Q (closed kept rs) →
          All Q (cond x (recounted kept r ∷ closed kept rs) (closed kept rs))
      by_test true t ih = (f r a.0 (ltb-true 0 (get_or kept r.label 0) t), ih)
      by_test false t ih = ih

  -- a figure that a recount does not change
  pub closed_differ : (f : TemplateRecord → ℕ) → ((r : TemplateRecord) → f (recounted kept r) ≡ f r) →
      (rs : List TemplateRecord) → Differ f rs → Differ f (closed kept rs)
  unfolding closed
  closed_differ f same [] d = tt
  closed_differ f same (r ∷ rs) d = by_test (remains kept r) (closed_differ f same rs d.1)
    where
      by_test : (x : Bool) → Differ f (closed kept rs) →
          Differ f (cond x (recounted kept r ∷ closed kept rs) (closed kept rs))
      by_test true ih = (
        closed_all (λ u. f r ≢ f u) (λ u. f (recounted kept r) ≢ f u)
            (λ u n _ e. n (sym (same r) ∙ e ∙ same u)) rs d.0,
        ih,
      )
      by_test false ih = ih

  -- a label is left where there are bodies of it
  pub has_closed : (k : ℕ) (rs : List TemplateRecord) →
      has_label k (closed kept rs) ≡ (has_label k rs && ltb 0 (get_or kept k 0))
  unfolding closed
  has_closed k [] = refl
  has_closed k (r ∷ rs) = by_label (eqb k r.label) refl (remains kept r) refl (has_closed k rs)
    where
      has : Bool
      has = ltb 0 (get_or kept k 0)

      same_sum : eqb k r.label ≡ true → remains kept r ≡ has
      same_sum e = ap (λ (j : ℕ). ltb 0 (get_or kept j 0)) (sym (eqb-true k r.label e))

      by_label : (s : Bool) → eqb k r.label ≡ s → (t : Bool) → remains kept r ≡ t →
          has_label k (closed kept rs) ≡ (has_label k rs && has) →
          has_label k (cond t (recounted kept r ∷ closed kept rs) (closed kept rs)) ≡ ((s || has_label k rs) && has)
      by_label true e true f h = rw e (sym f ∙ same_sum e)
      by_label true e false f h =
          let none : has ≡ false = sym (same_sum e) ∙ f in
          h ∙ rw none (and-false (has_label k rs))
      by_label false e true f h = rw e h
      by_label false e false f h = h
