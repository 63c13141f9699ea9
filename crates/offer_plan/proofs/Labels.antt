-- Records whose keys and labels differ: a label tells them apart as the key does. So what is decided by label is
-- decided by id. Assumes nothing.
use mathlib.Core.Path.{◌≡◌, refl, sym, ◌∙◌}
use mathlib.Core.Logic.{◌≢◌}
use mathlib.Core.List.{List, [], ◌∷◌}
use Prim.Native.Nat.{ℕ, zero, suc}
use lib.Dec.{eqb}
use lib.ListN.{take, drop}
use borrow.Author.Tests.{eq-eqb, ne_eqb}
use Rattle.config.proofs.Lists.{All, all_both}
use Rattle.table.specs.declared.Entry.{Entry}
use Rattle.table.specs.declared.TemplateRecord.{TemplateRecord}
use Rattle.table.specs.Table.{has_label}
use Rattle.table.proofs.Facts.{Differ}
use Rattle.cache_model.proofs.Thinning.{has_id}
use Rattle.pending_flows.specs.View.{templates_at}

-- ---- parts of a list

module _ {A : Type 0} (P : A → Type 0) where
  pub all_take : (n : ℕ) (xs : List A) → All P xs → All P (take n xs)
  all_take zero xs a = tt
  all_take (suc n) [] a = tt
  all_take (suc n) (x ∷ xs) a = (a.0, all_take n xs a.1)

  pub all_drop : (n : ℕ) (xs : List A) → All P xs → All P (drop n xs)
  all_drop zero xs a = a
  all_drop (suc n) [] a = tt
  all_drop (suc n) (x ∷ xs) a = all_drop n xs a.1

-- ---- labels and keys

abbrev pub Alike : TemplateRecord → TemplateRecord → Type 0
Alike u r = eqb u.label r.label ≡ eqb u.key r.key

pub alike : (rs : List TemplateRecord) → Differ (λ r. r.key) rs → Differ (λ r. r.label) rs →
    All (λ u. All (Alike u) rs) rs
alike [] d e = tt
alike (r ∷ rs) d e = (
  (
    eq-eqb r.label r.label refl ∙ sym (eq-eqb r.key r.key refl),
    all_both (λ u. r.key ≢ u.key) (λ u. r.label ≢ u.label) (Alike r)
        (λ u x y. ne_eqb r.label u.label y ∙ sym (ne_eqb r.key u.key x)) rs d.0 e.0,
  ),
  all_both (λ u. Alike u r) (λ u. All (Alike u) rs) (λ u. All (Alike u) (r ∷ rs)) (λ u x y. (x, y)) rs
      (all_both (λ u. r.key ≢ u.key) (λ u. r.label ≢ u.label) (λ u. Alike u r) other rs d.0 e.0)
      (alike rs d.1 e.1),
)
  where
    other : (u : TemplateRecord) → r.key ≢ u.key → r.label ≢ u.label → Alike u r
    other u x y =
        ne_eqb u.label r.label (λ q. y (sym q)) ∙ sym (ne_eqb u.key r.key (λ q. x (sym q)))

pub has_alike : (b : List ℕ) (es : List Entry) (u : TemplateRecord) (rs : List TemplateRecord) → All (Alike u) rs →
    has_label u.label rs ≡ has_id u.key (templates_at b es rs)
has_alike b es u [] a = refl
has_alike b es u (r ∷ rs) a = rw (a.0, has_alike b es u rs a.1)
