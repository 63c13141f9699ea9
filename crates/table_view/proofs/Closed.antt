-- The records that remain after a sweep, and the templates that records stand for: their parts, and when they are the
-- same. Assumes nothing.
use mathlib.Core.Path.{◌≡◌, refl, ap, ◌∙◌}
use mathlib.Core.Bool.{Bool, true, false, cond}
use mathlib.Core.List.{List, [], ◌∷◌, ◌++◌}
use Prim.Native.Nat.{ℕ, zero, suc, ◌<◌}
use native.Mathlib.Omega.{arith}
use lib.ListN.{length, get_or, take, drop}
use borrow.Author.Tests.{ltb-true, ltb-false}
use Rattle.config.proofs.Lists.{All}
use Rattle.table.specs.declared.Entry.{Entry}
use Rattle.table.specs.declared.TemplateRecord.{TemplateRecord}
use Rattle.table_records.specs.Close.{recounted, remains, closed}
use Rattle.cache_model.specs.Bodies.{Body, Template, unless_empty}
use Rattle.pending_flows.specs.View.{bodies_at, template_at, templates_at}
use Rattle.cache_model.proofs.Thinning.{thinned}

module _ (b : List ℕ) where
  -- the bodies of a record that a sweep leaves: `kept` has their number, and where there are any they are read off es'
  abbrev pub Left : (ℕ → List Body → List Body) → List ℕ → List Entry → List Entry → TemplateRecord → Type 0
  Left f kept es es' r =
      (get_or kept r.label 0 ≡ length (f r.key (bodies_at b r.label es))) ×
      (0 < length (f r.key (bodies_at b r.label es)) →
      bodies_at b r.label es' ≡ f r.key (bodies_at b r.label es))

  pub closed_templates : (kept : List ℕ) (es es' : List Entry) (rs : List TemplateRecord)
      (f : ℕ → List Body → List Body) → All (λ r. Left f kept es es' r) rs →
      templates_at b es' (closed kept rs) ≡ thinned f (templates_at b es rs)
  unfolding closed thinned
  closed_templates kept es es' [] f h = refl
  closed_templates kept es es' (r ∷ rs) f h =
      by_test (remains kept r) refl (f r.key (bodies_at b r.label es)) refl
      (closed_templates kept es es' rs f h.1)
    where
      by_test : (x : Bool) → remains kept r ≡ x → (bs : List Body) → f r.key (bodies_at b r.label es) ≡ bs →
          templates_at b es' (closed kept rs) ≡ thinned f (templates_at b es rs) →
          templates_at b es' (cond x (recounted kept r ∷ closed kept rs) (closed kept rs))
          ≡ unless_empty r.key bs (thinned f (templates_at b es rs))
      by_test true t [] e ih = absurd (omega (arith, h.0.0, ap length e, ltb-true 0 (get_or kept r.label 0) t))
      by_test true t (y ∷ ys) e ih =
          let same : bodies_at b r.label es' ≡ y ∷ ys = h.0.1 (omega (arith, ap length e)) ∙ e in
          rw (same, ih)
      by_test false t [] e ih = ih
      by_test false t (y ∷ ys) e ih =
          absurd (omega (arith, h.0.0, ap length e, ltb-false 0 (get_or kept r.label 0) t))

pub closed_append : (kept : List ℕ) (xs ys : List TemplateRecord) →
    closed kept (xs ++ ys) ≡ closed kept xs ++ closed kept ys
unfolding closed
closed_append kept [] ys = refl
closed_append kept (r ∷ xs) ys = by_test (remains kept r) (closed_append kept xs ys)
  where
    by_test : (x : Bool) → closed kept (xs ++ ys) ≡ closed kept xs ++ closed kept ys →
        cond x (recounted kept r ∷ closed kept (xs ++ ys)) (closed kept (xs ++ ys))
        ≡ cond x (recounted kept r ∷ closed kept xs) (closed kept xs) ++ closed kept ys
    by_test true ih = ap (λ (l : List TemplateRecord). recounted kept r ∷ l) ih
    by_test false ih = ih

-- where no label has bodies left, no record remains
pub closed_none : (kept : List ℕ) (rs : List TemplateRecord) → All (λ r. get_or kept r.label 0 ≡ 0) rs →
    closed kept rs ≡ []
unfolding closed
closed_none kept [] h = refl
closed_none kept (r ∷ rs) h = rw h.0 (closed_none kept rs h.1)

module _ (b : List ℕ) (es : List Entry) where
  pub templates_append : (xs ys : List TemplateRecord) →
      templates_at b es (xs ++ ys) ≡ templates_at b es xs ++ templates_at b es ys
  templates_append [] ys = refl
  templates_append (r ∷ xs) ys = ap (λ (l : List Template). template_at b es r ∷ l) (templates_append xs ys)

  pub templates_take : (n : ℕ) (rs : List TemplateRecord) →
      templates_at b es (take n rs) ≡ take n (templates_at b es rs)
  templates_take zero rs = refl
  templates_take (suc n) [] = refl
  templates_take (suc n) (r ∷ rs) = ap (λ (l : List Template). template_at b es r ∷ l) (templates_take n rs)

  pub templates_drop : (n : ℕ) (rs : List TemplateRecord) →
      templates_at b es (drop n rs) ≡ drop n (templates_at b es rs)
  templates_drop zero rs = refl
  templates_drop (suc n) [] = refl
  templates_drop (suc n) (r ∷ rs) = templates_drop n rs

-- the same bodies, the same templates
pub same_templates : (b b' : List ℕ) (es es' : List Entry) (rs : List TemplateRecord) →
    All (λ r. bodies_at b r.label es ≡ bodies_at b' r.label es') rs →
    templates_at b es rs ≡ templates_at b' es' rs
same_templates b b' es es' [] h = refl
same_templates b b' es es' (r ∷ rs) h = cc (h.0, same_templates b b' es es' rs h.1)
