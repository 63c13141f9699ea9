-- One step along an index: what it says that the keys rise, and what makes them rise. Assumes nothing.
use mathlib.Core.Path.{◌≡◌, refl}
use mathlib.Core.Bool.{true}
use mathlib.Core.List.{List, [], ◌∷◌}
use Prim.Native.Nat.{ℕ, ◌+◌, ◌≤◌, ◌<◌}
use lib.Dec.{leb, ltb}
use lib.ListN.{length}
use borrow.Author.Tests.{leb-true, ltb-true, lt-ltb, le-leb}
use Rattle.config.proofs.Tests.{and_left, and_right, and_both}
use Rattle.table.specs.declared.TemplateRecord.{TemplateRecord}
use Rattle.table.specs.WellFormed.{key_at, index_rises}

pub record Rises (rs : List TemplateRecord) (low i : ℕ) (is : List ℕ) : Type 0 where
  pub known : i < length rs
  pub above : low ≤ key_at rs i
  pub rest : index_rises rs (key_at rs i + 1) is ≡ true

module _ (rs : List TemplateRecord) (low : ℕ) where
  pub rises_none : index_rises rs low [] ≡ true
  unfolding index_rises
  rises_none = refl

  pub rises_says : (i : ℕ) (is : List ℕ) → index_rises rs low (i ∷ is) ≡ true → Rises rs low i is
  unfolding index_rises
  rises_says i is t =
      let t' = and_right (ltb i (length rs)) _ t in
      record {
        known = ltb-true _ _ (and_left (ltb i (length rs)) _ t);
        above = leb-true _ _ (and_left (leb low (key_at rs i)) _ t');
        rest = and_right (leb low (key_at rs i)) _ t';
      }

  pub rises_holds : (i : ℕ) (is : List ℕ) → Rises rs low i is → index_rises rs low (i ∷ is) ≡ true
  unfolding index_rises
  rises_holds i is h =
      and_both (ltb i (length rs)) _ (lt-ltb i (length rs) h.known)
      (and_both (leb low (key_at rs i)) _ (le-leb low (key_at rs i) h.above) h.rest)
