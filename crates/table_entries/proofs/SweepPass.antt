-- What is to be skipped, and what the sweep keeps of a first entry and others. Assumes nothing.
use Rattle.std.proofs.Common.{◌≡◌, ℕ, ◌-◌, ◌≤◌, Bool, true, false, List, [], ◌∷◌, length, get_or, set, sym, refl, ap, ◌∙◌, arith, ltb-false, lt-ltb}
use lib.ListN.{get_or-eq_default}
use lib.Seq.{set-get_or}
use Rattle.table.specs.declared.Entry.{Entry}
use Rattle.table.specs.Passes.{less_at}
use Rattle.table_entries.specs.declared.StayTest.{StayTest}
use Rattle.table_entries.specs.Stays.{stays}
use Rattle.table_entries.specs.Sweep.{swept, Spends}

-- taking one off what is to be skipped
module _ (skip : List ℕ) (label : ℕ) where
  pub less_of_none : get_or skip label 0 ≡ 0 → less_at skip label ≡ skip
  less_of_none z =
      let e : get_or skip label 0 - 1 ≡ get_or skip label 0 = omega arith in
      ap (set skip label) e ∙ set-get_or skip label 0

  pub none_of_label : get_or skip label 0 ≡ 0 → Spends label skip skip false
  none_of_label z = record { test = rw z; after = sym (less_of_none z) }

  pub no_label : length skip ≤ label → Spends label skip skip false
  no_label h = none_of_label (get_or-eq_default skip 0 h)

  pub one_of_label : (get_or skip label 0 ≡ 0 → ⊥) → Spends label skip (less_at skip label) true
  one_of_label some = record { test = sym (lt-ltb 0 (get_or skip label 0) (omega arith)); after = refl }

pub ruleset spending = (none_of_label, no_label, one_of_label)

module _ (q : StayTest) where
  pub none_swept : (skip : List ℕ) → swept q skip [] ≡ []
  unfolding swept
  none_swept skip = refl

  -- a first entry goes, is skipped, or is kept
  module _ (e : Entry) {v : Bool} (test : v ≡ stays q e) where
    pub first_goes : v ≡ false → (skip : List ℕ) (es : List Entry) → swept q skip (e ∷ es) ≡ swept q skip es
    unfolding swept
    first_goes h skip es = rw (← test, h)

    module _ (holds : v ≡ true) {skip skip' : List ℕ} {u : Bool} (spent : Spends e.label skip skip' u) where
      pub first_skipped : u ≡ true → (es : List Entry) → swept q skip (e ∷ es) ≡ swept q skip' es
      unfolding swept
      first_skipped h es = rw (← test, holds, ← spent.test, h, spent.after)

      pub first_kept : u ≡ false → (es : List Entry) → swept q skip (e ∷ es) ≡ e ∷ swept q skip' es
      unfolding swept
      first_kept h es =
          let z : get_or skip e.label 0 ≤ 0 = ltb-false 0 (get_or skip e.label 0) (sym spent.test ∙ h) in
          let same : skip' ≡ skip = spent.after ∙ less_of_none skip e.label (omega arith) in
          rw (← test, holds, ← spent.test, h, same)
