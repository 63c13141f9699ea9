-- A sum of weights, taken along a list that has each place with a weight once. Assumes nothing.
use mathlib.Core.Path.{◌≡◌, refl, sym, ap, ◌∙◌}
use mathlib.Core.List.{List, [], ◌∷◌}
use Prim.Native.Nat.{ℕ, ◌+◌, ◌<◌}
use native.Mathlib.Omega.{arith}
use native.Mathlib.Decide.{ℕ_discrete}
use lib.ListN.{length, get_or, set}
use lib.Seq.{get_or-set_same, get_or-set_other}
use Rattle.table.proofs.Draws.{sum_of, occurs, occurs_here, occurs_later, sum_set, in_list, zero_sum}

unfoldable pub sum_along : List ℕ → List ℕ → ℕ
sum_along ws [] = 0
sum_along ws (i ∷ is) = get_or ws i 0 + sum_along ws is

-- a weight that the list does not take does not matter
along_set : (ws : List ℕ) (i : ℕ) (is : List ℕ) → occurs i is ≡ 0 → sum_along (set ws i 0) is ≡ sum_along ws is
unfolding sum_along
along_set ws i [] o = refl
along_set ws i (j ∷ is) o = by_place (ℕ_discrete i j) (along_set ws i is)
  where
    by_place : Dec (i ≡ j) → (occurs i is ≡ 0 → sum_along (set ws i 0) is ≡ sum_along ws is) →
        get_or (set ws i 0) j 0 + sum_along (set ws i 0) is ≡ get_or ws j 0 + sum_along ws is
    by_place (yes e) f = absurd (omega (arith, occurs_here i j is e))
    by_place (no d) f =
        omega (arith, get_or-set_other ws i j 0 0 (λ e. d (sym e)), f (omega (arith, occurs_later i j is d)))

pub sum_along_lem : (ws is : List ℕ) → ((i : ℕ) → 0 < get_or ws i 0 → occurs i is ≡ 1) → sum_along ws is ≡ sum_of ws
unfolding sum_along occurs
sum_along_lem ws [] f = sym (zero_sum ws (λ i. none i (ℕ_discrete (get_or ws i 0) 0)))
  where
    none : (i : ℕ) → Dec (get_or ws i 0 ≡ 0) → get_or ws i 0 ≡ 0
    none i (yes e) = e
    none i (no d) = absurd (omega (arith, f i (omega (arith, d))))
sum_along_lem ws (i ∷ is) f =
    by_weight (ℕ_discrete (get_or ws i 0) 0) (sum_along_lem ws is) (sum_along_lem (set ws i 0) is)
  where
    later : (j : ℕ) → (j ≡ i → ⊥) → 0 < get_or ws j 0 → occurs j is ≡ 1
    later j d h = sym (occurs_later j i is d) ∙ f j h

    by_weight : Dec (get_or ws i 0 ≡ 0) → (((j : ℕ) → 0 < get_or ws j 0 → occurs j is ≡ 1) → sum_along ws is ≡ sum_of
        ws) →
        (((j : ℕ) → 0 < get_or (set ws i 0) j 0 → occurs j is ≡ 1) → sum_along (set ws i 0) is ≡ sum_of (set ws i 0)) →
        get_or ws i 0 + sum_along ws is ≡ sum_of ws
    by_weight (yes z) g h =
        omega (arith, g (λ j some. later j (λ e. omega (arith, ap (λ (m : ℕ). get_or ws m 0) e)) some))
    by_weight (no d) g h =
        let some : 0 < get_or ws i 0 = omega (arith, d) in
        let at : i < length ws = in_list ws i some in
        let z : get_or (set ws i 0) i 0 ≡ 0 = get_or-set_same ws i 0 0 at in
        let once : occurs i is ≡ 0 = omega (arith, f i some, occurs_here i i is refl) in
        let rest : sum_along (set ws i 0) is ≡ sum_of (set ws i 0) =
        h (λ j k.
        let n : j ≡ i → ⊥ = λ e. omega (arith, ap (λ (m : ℕ). get_or (set ws i 0) m 0) e) in
        later j n (omega (arith, get_or-set_other ws i j 0 0 n))) in
        omega (arith, along_set ws i is once, sum_set ws i 0 at)
