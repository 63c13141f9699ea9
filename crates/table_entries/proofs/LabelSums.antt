-- The sums by label as plain sums: each is its label's, up to the largest 32-bit number. Assumes nothing.
use Rattle.std.proofs.Common.{◌≡◌, ℕ, ◌+◌, ◌<◌, ◌≤◌, min, Bool, true, false, cond, List, [], ◌∷◌, length, get_or, replicate, refl, ap, ◌∙◌, arith, length-set, get_or-set_other, get_or-set_same, eq-eqb, ne_eqb}
use native.Mathlib.Decide.{ℕ_discrete}
use lib.ListN.{length-replicate, get_or-replicate}
use Rattle.config.proofs.Tests.{by_case}
use Rattle.table.specs.declared.Entry.{Entry}
use Rattle.table_entries.specs.declared.StayTest.{StayTest}
use Rattle.table_entries.specs.Stays.{stays}
use Rattle.table_entries.specs.Sums.{sum_most, more_at, share, summed, label_sum}

-- no label has a sum yet
abbrev pub zeros : List ℕ
zeros = replicate 1024 0

module _ (q : StayTest) (bytes : Bool) where
  -- what the first entry adds to a label's sum
  module _ (k : ℕ) (e : Entry) (es : List Entry) where
    pub label_sum_here : stays q e ≡ true → k ≡ e.label →
        label_sum q bytes k (e ∷ es) ≡ share bytes e + label_sum q bytes k es
    unfolding label_sum
    label_sum_here s h = rw (s, eq-eqb k e.label h)

    pub label_sum_other : stays q e ≡ true → (k ≡ e.label → ⊥) →
        label_sum q bytes k (e ∷ es) ≡ label_sum q bytes k es
    unfolding label_sum
    label_sum_other s d = rw (s, ne_eqb k e.label d) (omega arith)

    pub label_sum_leaving : stays q e ≡ false → label_sum q bytes k (e ∷ es) ≡ label_sum q bytes k es
    unfolding label_sum
    label_sum_leaving s = rw s (omega arith)

  pub length_summed : (sums : List ℕ) (es : List Entry) → length (summed q bytes sums es) ≡ length sums
  unfolding summed
  length_summed sums [] = refl
  length_summed sums (e ∷ es) =
      length_summed (cond (stays q e) (more_at sums e.label (share bytes e)) sums) es
      ∙ by_case (λ (l : List ℕ). length l ≡ length sums) (stays q e)
      (λ _. length-set sums e.label (min (get_or sums e.label 0 + share bytes e) sum_most)) (λ _. refl)

  -- a label's sum, and what the entries add
  pub summed_from : (sums : List ℕ) (es : List Entry) (k : ℕ) → k < length sums → get_or sums k 0 ≤ sum_most →
      get_or (summed q bytes sums es) k 0 ≡ min (get_or sums k 0 + label_sum q bytes k es) sum_most
  unfolding summed label_sum
  summed_from sums [] k h most = omega arith
  summed_from sums (e ∷ es) k h most =
      let total = min (get_or sums k 0 + label_sum q bytes k (e ∷ es)) sum_most in
      by_case (λ (l : List ℕ). get_or (summed q bytes l es) k 0 ≡ total) (stays q e)
      (λ s. adds s (ℕ_discrete k e.label) (summed_from (more_at sums e.label (share bytes e)) es k))
      (λ s. omega (arith, summed_from sums es k h most, label_sum_leaving k e es s))
    where
      next : List ℕ
      next = more_at sums e.label (share bytes e)

      adds : stays q e ≡ true → Dec (k ≡ e.label) → (k < length next → get_or next k 0 ≤ sum_most →
          get_or (summed q bytes next es) k 0 ≡ min (get_or next k 0 + label_sum q bytes k es) sum_most) →
          get_or (summed q bytes next es) k 0 ≡ min (get_or sums k 0 + label_sum q bytes k (e ∷ es)) sum_most
      adds s (yes d) later =
          let total = min (get_or sums e.label 0 + share bytes e) sum_most in
          let was : get_or sums k 0 ≡ get_or sums e.label 0 = ap (λ (i : ℕ). get_or sums i 0) d in
          let is : get_or next k 0 ≡ total =
          ap (λ (i : ℕ). get_or next i 0) d ∙ get_or-set_same sums e.label total 0 (omega arith) in
          omega (
            arith,
            label_sum_here k e es s d,
            later (omega (arith, length-set sums e.label total)) (omega arith),
          )
      adds s (no d) later =
          let total = min (get_or sums e.label 0 + share bytes e) sum_most in
          let is : get_or next k 0 ≡ get_or sums k 0 = get_or-set_other sums e.label k total 0 d in
          omega (
            arith,
            label_sum_other k e es s d,
            later (omega (arith, length-set sums e.label total)) (omega arith),
          )

  -- the sums of no label yet
  module _ (es : List Entry) (k : ℕ) (small : k < 1024) where
    pub summed_label : get_or (summed q bytes zeros es) k 0 ≡ min (label_sum q bytes k es) sum_most
    summed_label =
        let z : get_or zeros k 0 ≡ 0 = get_or-replicate 1024 k 0 0 small in
        omega (arith, summed_from zeros es k (omega (arith, length-replicate {A = ℕ} 1024 0)) (omega arith))
