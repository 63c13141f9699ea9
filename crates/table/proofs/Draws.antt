-- Drawing from allowances: where all draws succeed and nothing is left, each number was drawn as often as it was
-- allowed (`draws_exact`), and the other way round (`exact_draws`). Assumes nothing.
use Rattle.std.proofs.Common.{◌≡◌, ℕ, zero, suc, ◌+◌, ◌-◌, ◌*◌, ◌<◌, Bool, true, cond, ◌&&◌, eqb, ltb, List, [], ◌∷◌, length, get_or, set, replicate, refl, ap, arith, get_or-set_other, get_or-set_same, ltb-true, lt-ltb, eq-eqb, ne_eqb}
use native.Mathlib.Decide.{ℕ_discrete}
use lib.ListN.{get_or-eq_default}
use Rattle.config.proofs.Tests.{and_left, and_right, and_both}
use Rattle.table.specs.Passes.{less_at}

unfoldable pub sum_of : List ℕ → ℕ
sum_of [] = 0
sum_of (x ∷ l) = x + sum_of l

-- how often i stands in a list
unfoldable pub occurs : ℕ → List ℕ → ℕ
occurs i [] = 0
occurs i (x ∷ xs) = cond (eqb i x) (suc (occurs i xs)) (occurs i xs)

pub occurs_here : (i x : ℕ) (xs : List ℕ) → i ≡ x → occurs i (x ∷ xs) ≡ suc (occurs i xs)
unfolding occurs
occurs_here i x xs e = rw (eq-eqb i x e)

pub occurs_later : (i x : ℕ) (xs : List ℕ) → (i ≡ x → ⊥) → occurs i (x ∷ xs) ≡ occurs i xs
unfolding occurs
occurs_later i x xs d = rw (ne_eqb i x d)

pub sum_set : (l : List ℕ) (i v : ℕ) → i < length l → sum_of (set l i v) + get_or l i 0 ≡ sum_of l + v
unfolding sum_of
sum_set [] i v h = absurd (omega arith)
sum_set (x ∷ l) zero v h = omega arith
sum_set (x ∷ l) (suc i) v h = omega (arith, sum_set l i v (omega arith))

pub sum_replicate : (n a : ℕ) → sum_of (replicate n a) ≡ n * a
unfolding sum_of
sum_replicate zero a = omega arith
sum_replicate (suc n) a = omega (arith, sum_replicate n a)

-- a sum is 0 where every part is, and only there
pub sum_zero : (l : List ℕ) (i : ℕ) → sum_of l ≡ 0 → get_or l i 0 ≡ 0
unfolding sum_of
sum_zero [] i h = get_or-eq_default {A = ℕ} [] 0 {n = i} (omega arith)
sum_zero (x ∷ l) zero h = omega arith
sum_zero (x ∷ l) (suc i) h = sum_zero l i (omega arith)

pub zero_sum : (l : List ℕ) → ((i : ℕ) → get_or l i 0 ≡ 0) → sum_of l ≡ 0
unfolding sum_of
zero_sum [] f = refl
zero_sum (x ∷ l) f = omega (arith, f 0, zero_sum l (λ i. f (suc i)))

-- what is past the end is 0
pub in_list : (l : List ℕ) (i : ℕ) → 0 < get_or l i 0 → i < length l
in_list [] i h = absurd (omega (arith, get_or-eq_default {A = ℕ} [] 0 {n = i} (omega arith)))
in_list (x ∷ l) zero h = omega arith
in_list (x ∷ l) (suc i) h = omega (arith, in_list l i h)

-- each of a list of numbers takes one of what it is allowed
unfoldable pub draws : List ℕ → List ℕ → Bool
draws l [] = true
draws l (x ∷ xs) = ltb 0 (get_or l x 0) && draws (less_at l x) xs

-- one draw
module _ (l : List ℕ) (x : ℕ) (some : 0 < get_or l x 0) where
  less_same : (i : ℕ) → i ≡ x → suc (get_or (less_at l x) i 0) ≡ get_or l i 0
  less_same i e =
      let a : get_or (less_at l x) i 0 ≡ get_or (less_at l x) x 0 = ap (λ (j : ℕ). get_or (less_at l x) j 0) e in
      let b : get_or l i 0 ≡ get_or l x 0 = ap (λ (j : ℕ). get_or l j 0) e in
      omega (arith, get_or-set_same l x (get_or l x 0 - 1) 0 (in_list l x some))

  pub less_other : (i : ℕ) → (i ≡ x → ⊥) → get_or (less_at l x) i 0 ≡ get_or l i 0
  less_other i d = get_or-set_other l x i (get_or l x 0 - 1) 0 d

  less_sum : suc (sum_of (less_at l x)) ≡ sum_of l
  less_sum = omega (arith, sum_set l x (get_or l x 0 - 1) (in_list l x some))

pub draws_exact : (l xs : List ℕ) → draws l xs ≡ true → sum_of l ≡ length xs → (i : ℕ) → get_or l i 0 ≡ occurs i xs
unfolding draws occurs
draws_exact l [] d s i = sum_zero l i s
draws_exact l (x ∷ xs) d s i =
    by_number (ℕ_discrete i x)
    (draws_exact (less_at l x) xs (and_right (ltb 0 (get_or l x 0)) _ d) (omega (arith, less_sum l x some)) i)
  where
    some : 0 < get_or l x 0
    some = ltb-true 0 (get_or l x 0) (and_left (ltb 0 (get_or l x 0)) _ d)

    by_number : Dec (i ≡ x) → get_or (less_at l x) i 0 ≡ occurs i xs → get_or l i 0 ≡ occurs i (x ∷ xs)
    by_number (yes e) r = omega (arith, less_same l x some i e, occurs_here i x xs e)
    by_number (no e) r = omega (arith, less_other l x some i e, occurs_later i x xs e)

pub exact_draws : (l xs : List ℕ) → ((i : ℕ) → get_or l i 0 ≡ occurs i xs) → (draws l xs ≡ true) ×
    (sum_of l ≡ length xs)
unfolding draws occurs
exact_draws l [] f = (refl, zero_sum l f)
exact_draws l (x ∷ xs) f =
    let rest = exact_draws (less_at l x) xs (λ i. by_number i (ℕ_discrete i x)) in (
      and_both (ltb 0 (get_or l x 0)) _ (lt-ltb 0 (get_or l x 0) some) rest.0,
      omega
          (arith, less_sum l x some, rest.1),
    )
  where
    some : 0 < get_or l x 0
    some = omega (arith, f x, occurs_here x x xs refl)

    by_number : (i : ℕ) → Dec (i ≡ x) → get_or (less_at l x) i 0 ≡ occurs i xs
    by_number i (yes e) = omega (arith, f i, less_same l x some i e, occurs_here i x xs e)
    by_number i (no e) = omega (arith, f i, less_other l x some i e, occurs_later i x xs e)
