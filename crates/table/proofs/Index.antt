-- The index: where the keys along it rise and it is as long as the records, it has each position once, and no two
-- records have the same key. Assumes nothing.
use Rattle.std.proofs.Common.{◌≡◌, ℕ, suc, ◌+◌, ◌<◌, ◌≤◌, true, ltb, leb, ◌≢◌, List, [], ◌∷◌, length, get_or, replicate, sym, refl, ap, ◌∙◌, arith, ltb-true, lt-ltb, leb-true}
use native.Mathlib.Decide.{ℕ_discrete}
use lib.ListN.{get_or-replicate}
use Rattle.config.proofs.Tests.{and_left, and_right, and_both}
use Rattle.config.proofs.Lists.{All}
use Rattle.table.specs.declared.TemplateRecord.{TemplateRecord}
use Rattle.table.specs.WellFormed.{key_at, index_rises}
use Rattle.table.specs.Passes.{less_at}
use Rattle.table.proofs.Facts.{Differ}
use Rattle.table.proofs.Draws.{occurs, occurs_here, occurs_later, sum_replicate, draws, draws_exact, less_other}

-- what holds at each place holds of each
all_by_place : {A : Type 0} (P : A → Type 0) (d : A) (xs : List A) → ((i : ℕ) → i < length xs → P (get_or xs i d)) →
    All P xs
all_by_place P d [] f = tt
all_by_place P d (x ∷ xs) f = (f 0 (omega arith), all_by_place P d xs (λ i h. f (suc i) (omega arith)))

differ_by_place : (f : TemplateRecord → ℕ) (d : TemplateRecord) (rs : List TemplateRecord) →
    ((i j : ℕ) → i < j → j < length rs → f (get_or rs i d) ≢ f (get_or rs j d)) → Differ f rs
differ_by_place f d [] g = tt
differ_by_place f d (r ∷ rs) g = (
  all_by_place (λ u. f r ≢ f u) d rs (λ j h. g 0 (suc j) (omega arith) (omega arith)),
  differ_by_place f d rs (λ i j h k. g (suc i) (suc j) (omega arith) (omega arith)),
)

module _ (rs : List TemplateRecord) where
  record Rise (low i : ℕ) (is : List ℕ) : Type 0 where
    pub known : i < length rs
    pub above : low ≤ key_at rs i
    pub rest : index_rises rs (key_at rs i + 1) is ≡ true

  rise_says : (low i : ℕ) (is : List ℕ) → index_rises rs low (i ∷ is) ≡ true → Rise low i is
  unfolding index_rises
  rise_says low i is t =
      let t' = and_right (ltb i (length rs)) _ t in
      record {
        known = ltb-true _ _ (and_left (ltb i (length rs)) _ t);
        above = leb-true _ _ (and_left (leb low (key_at rs i)) _ t');
        rest = and_right (leb low (key_at rs i)) _ t';
      }

  -- what stands in the index is a position, and its key is `low` or more
  pub rise_each : (low : ℕ) (is : List ℕ) → index_rises rs low is ≡ true → (x : ℕ) → 0 < occurs x is →
      (x < length rs) × (low ≤ key_at rs x)
  unfolding occurs
  rise_each low [] t x o = absurd (omega arith)
  rise_each low (i ∷ is) t x o = by_place (ℕ_discrete x i) (rise_each (key_at rs i + 1) is first.rest x)
    where
      first : Rise low i is
      first = rise_says low i is t

      by_place : Dec (x ≡ i) → (0 < occurs x is → (x < length rs) × (key_at rs i + 1 ≤ key_at rs x)) →
          (x < length rs) × (low ≤ key_at rs x)
      by_place (yes e) f = rw e (first.known, first.above)
      by_place (no d) f =
          let later = f (omega (arith, occurs_later x i is d)) in
          (later.0, omega (arith, later.1, first.above))

  -- a position stands once
  rise_later : (low i : ℕ) (is : List ℕ) → index_rises rs low (i ∷ is) ≡ true → (x : ℕ) → 0 < occurs x is →
      key_at rs i < key_at rs x
  rise_later low i is t x o = omega (arith, rise_each (key_at rs i + 1) is (rise_says low i is t).rest x o)

  rise_draws : (l : List ℕ) (low : ℕ) (is : List ℕ) → index_rises rs low is ≡ true →
      ((x : ℕ) → 0 < occurs x is → 0 < get_or l x 0) → draws l is ≡ true
  unfolding draws
  rise_draws l low [] t f = refl
  rise_draws l low (i ∷ is) t f =
      and_both (ltb 0 (get_or l i 0)) _ (lt-ltb 0 (get_or l i 0) some)
      (rise_draws (less_at l i) (key_at rs i + 1) is (rise_says low i is t).rest still)
    where
      some : 0 < get_or l i 0
      some = f i (omega (arith, occurs_here i i is refl))

      still : (x : ℕ) → 0 < occurs x is → 0 < get_or (less_at l i) x 0
      still x o =
          let d : x ≡ i → ⊥ = λ e. omega (arith, rise_later low i is t x o, ap (λ (j : ℕ). key_at rs j) e) in
          omega (arith, less_other l i some x d, f x (omega (arith, occurs_later x i is d)))

  ones : List ℕ
  ones = replicate (length rs) 1

  -- so many positions along which the keys rise are all of them
  pub each_once : (is : List ℕ) → length is ≡ length rs → index_rises rs 0 is ≡ true → (i : ℕ) → i < length rs →
      occurs i is ≡ 1
  unfolding ones
  each_once is len t i h = sym (draws_exact ones is all_drawn (omega (arith, sum_replicate (length rs) 1)) i)
      ∙ one i h
    where
      one : (x : ℕ) → x < length rs → get_or ones x 0 ≡ 1
      one x k = get_or-replicate {A = ℕ} (length rs) x 1 0 k

      all_drawn : draws ones is ≡ true
      all_drawn = rise_draws ones 0 is t (λ x o. omega (arith, one x (rise_each 0 is t x o).0))

  rise_differ : (low : ℕ) (is : List ℕ) → index_rises rs low is ≡ true → (i j : ℕ) → 0 < occurs i is →
      0 < occurs j is →
      (i ≡ j → ⊥) → key_at rs i ≢ key_at rs j
  unfolding occurs
  rise_differ low [] t i j p q d s = omega arith
  rise_differ low (x ∷ is) t i j p q d s =
      by_place (ℕ_discrete i x) (ℕ_discrete j x)
      (λ a b. rise_differ (key_at rs x + 1) is (rise_says low x is t).rest i j a b d s)
    where
      by_place : Dec (i ≡ x) → Dec (j ≡ x) → (0 < occurs i is → 0 < occurs j is → ⊥) → ⊥
      by_place (yes a) (yes b) f = d (a ∙ sym b)
      by_place (yes a) (no b) f =
          omega (
            arith,
            ap (λ (k : ℕ). key_at rs k) a,
            rise_later low x is t j (omega (arith, occurs_later j x is b)),
          )
      by_place (no a) (yes b) f =
          omega (
            arith,
            ap (λ (k : ℕ). key_at rs k) b,
            rise_later low x is t i (omega (arith, occurs_later i x is a)),
          )
      by_place (no a) (no b) f = f (omega (arith, occurs_later i x is a)) (omega (arith, occurs_later j x is b))

  pub index_differs : (is : List ℕ) → length is ≡ length rs → index_rises rs 0 is ≡ true → Differ (λ r. r.key) rs
  index_differs is len t =
      differ_by_place (λ r. r.key) (record { key = 0; label = 0; count = 0 }) rs
      (λ i j h k. rise_differ 0 is t i j (omega (arith, each_once is len t i (omega arith)))
      (omega (arith, each_once is len t j k)) (λ e. omega arith))
