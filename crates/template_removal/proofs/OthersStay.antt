-- The entries of other labels: how many of each label there are, and that a sweep that skips all of one label and none
-- of another keeps them. Assumes nothing.
use mathlib.Core.Path.{◌≡◌, refl, sym, ap, ◌∙◌}
use mathlib.Core.Bool.{Bool, true, false}
use mathlib.Core.List.{List, [], ◌∷◌}
use Prim.Native.Nat.{ℕ, ◌-◌, ◌≤◌, ◌<◌}
use native.Mathlib.Omega.{arith}
use native.Mathlib.Decide.{ℕ_discrete}
use lib.Dec.{ltb}
use lib.ListN.{length, get_or, set, length-set, length-replicate, get_or-replicate}
use lib.Seq.{get_or-set_same, get_or-set_other}
use borrow.Author.Tests.{eq-eqb, ne_eqb, lt-ltb, ltb-true, ltb-false}
use Rattle.config.proofs.Lists.{All}
use Rattle.table.specs.declared.Entry.{Entry}
use Rattle.table.specs.Table.{tally}
use Rattle.table.specs.Passes.{less_at}
use Rattle.table.proofs.Labels.{tally_here, tally_later}
use Rattle.table_entries.specs.declared.StayTest.{StayTest}
use Rattle.table_entries.specs.Stays.{stays}
use Rattle.table_entries.specs.Sweep.{swept}
use Rattle.table_entries.proofs.LabelSums.{zeros}
use Rattle.table_view.proofs.Tied.{none_past}
use Rattle.entry_sweeps.specs.KeptBy.{kept_by}
use Rattle.entry_sweeps.proofs.KeptBy.{other_than, first_goes, first_kept, OthersPass, kept_others}

module _ (label : ℕ) where
  pub none_of_own : (es : List Entry) → tally label (kept_by (other_than label) es) ≡ 0
  unfolding kept_by
  none_of_own [] = refl
  none_of_own (e ∷ es) = by_label (ℕ_discrete label e.label) (none_of_own es)
    where
      by_label : Dec (label ≡ e.label) → tally label (kept_by (other_than label) es) ≡ 0 →
          tally label (kept_by (other_than label) (e ∷ es)) ≡ 0
      by_label (yes d) ih =
          ap (tally label) (first_goes (other_than label) e refl (rw (eq-eqb label e.label d)) es) ∙ ih
      by_label (no d) ih =
          ap (tally label) (first_kept (other_than label) e refl (rw (ne_eqb label e.label d)) es)
          ∙ tally_later label e (kept_by (other_than label) es) d
          ∙ ih

  others_pass : (es : List Entry) → OthersPass (other_than label) label es
  others_pass [] = tt
  others_pass (e ∷ es) = (λ d. rw (ne_eqb label e.label d), others_pass es)

  pub all_of_others : (k : ℕ) → (label ≡ k → ⊥) → (es : List Entry) → tally k (kept_by (other_than label) es) ≡ tally
      k es
  all_of_others k o es = kept_others (other_than label) label k o es (others_pass es)

  -- all of the label are skipped, and none of another
  record SkipsOwn (es : List Entry) (skip : List ℕ) : Type 0 where
    pub long : length skip ≡ 1024
    pub enough : tally label es ≤ get_or skip label 0
    pub none : (k : ℕ) → k < 1024 → (label ≡ k → ⊥) → get_or skip k 0 ≡ 0

  swept_others : (q : StayTest) (skip : List ℕ) (es : List Entry) → All (λ e. stays q e ≡ true) es →
      All (λ e. e.label < 1024) es → SkipsOwn es skip → swept q skip es ≡ kept_by (other_than label) es
  unfolding swept kept_by
  swept_others q skip [] s small h = refl
  swept_others q skip (e ∷ es) s small h =
      by_label (ℕ_discrete label e.label) (λ skip'. swept_others q skip' es s.1 small.1)
    where
      by_label : Dec (label ≡ e.label) →
          ((skip' : List ℕ) → SkipsOwn es skip' → swept q skip' es ≡ kept_by (other_than label) es) →
          swept q skip (e ∷ es) ≡ kept_by (other_than label) (e ∷ es)
      by_label (yes d) later =
          let some : 0 < get_or skip label 0 = omega (arith, h.enough, tally_here label e es d) in
          let here : get_or (less_at skip label) label 0 ≡ get_or skip label 0 - 1 =
          get_or-set_same skip label (get_or skip label 0 - 1) 0 (omega (arith, small.0, d, h.long)) in
          rw (s.0, ← d, lt-ltb 0 (get_or skip label 0) some, eq-eqb label label refl)
          (later (less_at skip label) (record {
            long = length-set skip label (get_or skip label 0 - 1) ∙ h.long;
            enough = omega (arith, h.enough, tally_here label e es d, here);
            none = λ k l o. get_or-set_other skip label k (get_or skip label 0 - 1) 0 (λ z. o (sym z)) ∙ h.none k l o;
          }))
      by_label (no d) later =
          rw (s.0, h.none e.label small.0 d, ne_eqb label e.label d)
          (ap (λ (l : List Entry). e ∷ l)
          (later skip (record {
            long = h.long;
            enough = omega (arith, h.enough, tally_later label e es d);
            none = h.none;
          })))

  pub label_swept : (q : StayTest) (n : ℕ) (es : List Entry) → All (λ e. stays q e ≡ true) es →
      All (λ e. e.label < 1024) es → tally label es ≤ n → swept q (set zeros label n) es ≡ kept_by (other_than label) es
  label_swept q n es s small most =
      swept_others q (set zeros label n) es s small (record {
        long = length-set zeros label n ∙ zeros_long;
        enough = by_size (ltb label 1024) refl;
        none = λ k l o. get_or-set_other zeros label k n 0 (λ z. o (sym z)) ∙ get_or-replicate {A = ℕ} 1024 k 0 0 l;
      })
    where
      zeros_long : length zeros ≡ 1024
      zeros_long = length-replicate {A = ℕ} 1024 0

      by_size : (t : Bool) → ltb label 1024 ≡ t → tally label es ≤ get_or (set zeros label n) label 0
      by_size true e =
          let small-label : label < 1024 = ltb-true label 1024 e in
          omega (arith, get_or-set_same zeros label n 0 (omega (arith, zeros_long)))
      by_size false e = omega (arith, none_past label es small (ltb-false label 1024 e))
