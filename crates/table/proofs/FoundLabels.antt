-- The label of an id among records whose keys and labels differ: it belongs to the record with that key alone.
-- Assumes nothing.
use Rattle.std.proofs.Common.{Some}
use Rattle.std.proofs.Common.{◌≡◌, ℕ, ◌<◌, Bool, true, false, cond, eqb, ◌≢◌, List, [], ◌∷◌, sym, refl, ◌∙◌, arith, eq-eqb, ne_eqb, eqb-true}
use Rattle.config.proofs.Lists.{All, all_map, all_both}
use Rattle.table.specs.declared.TemplateRecord.{TemplateRecord}
use Rattle.table.specs.Reads.{label_of, label_or_none}
use Rattle.table.proofs.Facts.{Differ}

abbrev pub label_for : ℕ → List TemplateRecord → ℕ
label_for i rs = label_or_none (label_of i rs)

module _ (i : ℕ) where
  -- what holds of each record's key and label holds of the id and its label
  pub found_has : (P : ℕ → ℕ → Type 0) (rs : List TemplateRecord) → All (λ u. P u.key u.label) rs → P i 1024 →
      P i (label_for i rs)
  unfolding label_of
  found_has P [] a none = none
  found_has P (r ∷ rs) a none = by_key (eqb i r.key) refl (found_has P rs a.1 none)
    where
      by_key : (t : Bool) → eqb i r.key ≡ t → P i (label_for i rs) →
          P i (label_or_none (cond t (Some r.label) (label_of i rs)))
      by_key true e h = rw (eqb-true i r.key e) a.0
      by_key false e h = h

  abbrev Alone : ℕ → TemplateRecord → Type 0
  Alone k u = eqb k u.label ≡ eqb i u.key

  pub found_alone : (rs : List TemplateRecord) → Differ (λ r. r.key) rs → Differ (λ r. r.label) rs →
      All (λ r. r.label < 1024) rs → All (λ u. eqb (label_for i rs) u.label ≡ eqb i u.key) rs
  unfolding label_of
  found_alone [] keys labels small = tt
  found_alone (r ∷ rs) keys labels small =
      by_key (eqb i r.key) refl (found_alone rs keys.1 labels.1 small.1)
    where
      by_key : (t : Bool) → eqb i r.key ≡ t → All (Alone (label_for i rs)) rs →
          (eqb (label_or_none (cond t (Some r.label) (label_of i rs))) r.label ≡ t) ×
          All (Alone (label_or_none (cond t (Some r.label) (label_of i rs)))) rs
      by_key true e ih = (
        eq-eqb r.label r.label refl,
        all_both (λ u. r.key ≢ u.key) (λ u. r.label ≢ u.label) (Alone r.label)
            (λ u k l. ne_eqb r.label u.label l
            ∙ sym (ne_eqb i u.key (λ d. k (sym (eqb-true i r.key e) ∙ d)))) rs keys.0 labels.0,
      )
      by_key false e ih = (
        ne_eqb (label_for i rs) r.label
            (found_has (λ j k. k ≡ r.label → ⊥) rs
            (all_map (λ u. r.label ≢ u.label) (λ u. u.label ≡ r.label → ⊥) (λ u n d. n (sym d)) rs labels.0)
            (λ d. omega (arith, small.0))),
        ih,
      )
