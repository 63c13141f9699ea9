-- The index after closing: along it the keys rise, and it has each record that remains once. Assumes nothing.
use mathlib.Core.Path.{◌≡◌, refl, sym, ap, ◌∙◌}
use mathlib.Core.Bool.{Bool, true, false, cond}
use mathlib.Core.List.{List, [], ◌∷◌}
use Prim.Native.Nat.{ℕ, zero, suc, ◌+◌, ◌-◌, ◌≤◌, ◌<◌}
use native.Mathlib.Omega.{arith}
use native.Mathlib.Decide.{ℕ_discrete}
use lib.Dec.{ltb}
use lib.ListN.{length, get_or}
use borrow.Author.Tests.{lt-ltb, ltb-true}
use Rattle.table.specs.declared.TemplateRecord.{TemplateRecord}
use Rattle.table.specs.WellFormed.{key_at, index_rises}
use Rattle.table.proofs.Draws.{sum_of, occurs, occurs_here, occurs_later, in_list}
use Rattle.table.proofs.Index.{rise_each, each_once}
use Rattle.table_records.specs.Close.{recounted, remains, closed, nowhere, positions, remapped}
use Rattle.table_records.proofs.Rises.{Rises, rises_none, rises_says, rises_holds}
use Rattle.table_records.proofs.Weights.{sum_along, sum_along_lem}

abbrev one_if : Bool → ℕ
one_if t = cond t 1 0

module _ (kept : List ℕ) where
  abbrev places : ℕ → List TemplateRecord → List ℕ
  places at rs = positions kept at rs

  -- a record that remains stands at its new position
  record Found (at : ℕ) (rs : List TemplateRecord) (i s : ℕ) : Type 0 where
    pub low : at ≤ s
    pub high : s < at + length (closed kept rs)
    pub key : key_at (closed kept rs) (s - at) ≡ key_at rs i

  found : (at : ℕ) (rs : List TemplateRecord) (i : ℕ) → i < length rs → get_or (places at rs) i nowhere < nowhere →
      Found at rs i (get_or (places at rs) i nowhere)
  unfolding positions closed
  found at [] i h l = absurd (omega arith)
  found at (r ∷ rs) zero h l = by_count (remains kept r) refl l
    where
      by_count : (t : Bool) → remains kept r ≡ t → cond t at nowhere < nowhere →
          Found at (r ∷ rs) zero (cond t at nowhere)
      by_count true e l =
          let z : at - at ≡ 0 = omega arith in
          record { low = omega arith; high = rw e (omega arith); key = rw (e, z) }
      by_count false e l = absurd (omega arith)
  found at (r ∷ rs) (suc i) h l =
      by_count (remains kept r) refl (found (at + 1) rs i (omega arith)) (found at rs i (omega arith)) l
    where
      by_count : (t : Bool) → remains kept r ≡ t →
          (get_or (places (at + 1) rs) i nowhere < nowhere → Found (at + 1) rs i
          (get_or (places (at + 1) rs) i nowhere)) →
          (get_or (places at rs) i nowhere < nowhere → Found at rs i (get_or (places at rs) i nowhere)) →
          get_or (places (cond t (at + 1) at) rs) i nowhere < nowhere →
          Found at (r ∷ rs) (suc i) (get_or (places (cond t (at + 1) at) rs) i nowhere)
      by_count true e f g l =
          let s = get_or (places (at + 1) rs) i nowhere in
          let there : Found (at + 1) rs i s = f l in
          let z : s - at ≡ suc (s - (at + 1)) = omega (arith, there.low) in
          record {
            low = omega (arith, there.low);
            high = rw e (omega (arith, there.high));
            key = rw (e, z) there.key;
          }
      by_count false e f g l =
          let there : Found at rs i (get_or (places at rs) i nowhere) = g l in
          record { low = there.low; high = rw e there.high; key = rw e there.key }

  -- 1 for each record that remains, else 0
  unfoldable ones : List TemplateRecord → List ℕ
  ones [] = []
  ones (r ∷ rs) = one_if (remains kept r) ∷ ones rs

  length_ones : (rs : List TemplateRecord) → length (ones rs) ≡ length rs
  unfolding ones
  length_ones [] = refl
  length_ones (r ∷ rs) = ap suc (length_ones rs)

  sum_ones : (rs : List TemplateRecord) → length (closed kept rs) ≡ sum_of (ones rs)
  unfolding closed ones sum_of
  sum_ones [] = refl
  sum_ones (r ∷ rs) = by_count (remains kept r) (sum_ones rs)
    where
      by_count : (t : Bool) → length (closed kept rs) ≡ sum_of (ones rs) →
          length (cond t (recounted kept r ∷ closed kept rs) (closed kept rs)) ≡ one_if t + sum_of (ones rs)
      by_count true e = omega arith
      by_count false e = omega arith

  one_placed : (at : ℕ) (rs : List TemplateRecord) (i : ℕ) → i < length rs → at + length rs ≤ nowhere →
      get_or (ones rs) i 0 ≡ one_if (ltb (get_or (places at rs) i nowhere) nowhere)
  unfolding ones positions
  one_placed at [] i h l = absurd (omega arith)
  one_placed at (r ∷ rs) zero h l = by_count (remains kept r)
    where
      by_count : (t : Bool) → one_if t ≡ one_if (ltb (cond t at nowhere) nowhere)
      by_count true = rw (lt-ltb at nowhere (omega arith))
      by_count false = refl
  one_placed at (r ∷ rs) (suc i) h l =
      by_count (remains kept r) (one_placed (at + 1) rs i (omega arith) (omega arith))
      (one_placed at rs i (omega arith) (omega arith))
    where
      by_count : (t : Bool) → get_or (ones rs) i 0 ≡ one_if (ltb (get_or (places (at + 1) rs) i nowhere) nowhere) →
          get_or (ones rs) i 0 ≡ one_if (ltb (get_or (places at rs) i nowhere) nowhere) →
          get_or (ones rs) i 0 ≡ one_if (ltb (get_or (places (cond t (at + 1) at) rs) i nowhere) nowhere)
      by_count true e f = e
      by_count false e f = f

-- keys that go with their records rise along the new positions
remapped_rises : (rs rs' : List TemplateRecord) (ps : List ℕ) → ((i : ℕ) → i < length rs →
    get_or ps i nowhere < nowhere → (get_or ps i nowhere < length rs') ×
    (key_at rs' (get_or ps i nowhere) ≡ key_at rs i)) →
    (low low' : ℕ) (is : List ℕ) → low' ≤ low → index_rises rs low is ≡ true → index_rises rs' low' (remapped ps is)
    ≡ true
unfolding remapped
remapped_rises rs rs' ps f low low' [] h t = rises_none rs' low'
remapped_rises rs rs' ps f low low' (i ∷ is) h t =
    by_place (ltb s nowhere) refl
    (λ m b. remapped_rises rs rs' ps f (key_at rs i + 1) m is b first.rest)
  where
    s : ℕ
    s = get_or ps i nowhere

    first : Rises rs low i is
    first = rises_says rs low i is t

    by_place : (q : Bool) → ltb s nowhere ≡ q →
        ((m : ℕ) → m ≤ key_at rs i + 1 → index_rises rs' m (remapped ps is) ≡ true) →
        index_rises rs' low' (cond q (s ∷ remapped ps is) (remapped ps is)) ≡ true
    by_place true e g =
        let there = f i first.known (ltb-true s nowhere e) in
        rises_holds rs' low' s (remapped ps is) record {
          known = there.0;
          above = omega (arith, there.1, first.above);
          rest = g (key_at rs' s + 1) (omega (arith, there.1));
        }
    by_place false e g = g low' (omega (arith, first.above))

length_remapped : (ws ps is : List ℕ) → ((i : ℕ) → 0 < occurs i is →
    get_or ws i 0 ≡ one_if (ltb (get_or ps i nowhere) nowhere)) → length (remapped ps is) ≡ sum_along ws is
unfolding remapped sum_along
length_remapped ws ps [] f = refl
length_remapped ws ps (i ∷ is) f =
    by_place (ltb (get_or ps i nowhere) nowhere) (f i (omega (arith, occurs_here i i is refl)))
    (length_remapped ws ps is (λ j o. f j (more j o (ℕ_discrete j i))))
  where
    more : (j : ℕ) → 0 < occurs j is → Dec (j ≡ i) → 0 < occurs j (i ∷ is)
    more j o (yes e) = omega (arith, occurs_here j i is e)
    more j o (no d) = omega (arith, occurs_later j i is d)

    by_place : (t : Bool) → get_or ws i 0 ≡ one_if t → length (remapped ps is) ≡ sum_along ws is →
        length (cond t (get_or ps i nowhere ∷ remapped ps is) (remapped ps is)) ≡ get_or ws i 0 + sum_along ws is
    by_place true e r = omega arith
    by_place false e r = omega arith

module _ (kept : List ℕ) (rs : List TemplateRecord) (is : List ℕ) (rises : index_rises rs 0 is ≡ true) where
  pub closed_rises : index_rises (closed kept rs) 0 (remapped (positions kept 0 rs) is) ≡ true
  closed_rises =
      remapped_rises rs (closed kept rs) (positions kept 0 rs) there 0 0 is (omega arith) rises
    where
      there : (i : ℕ) → i < length rs → get_or (positions kept 0 rs) i nowhere < nowhere →
          (get_or (positions kept 0 rs) i nowhere < length (closed kept rs))
          × (key_at (closed kept rs) (get_or (positions kept 0 rs) i nowhere) ≡ key_at rs i)
      there i h l =
          let s = get_or (positions kept 0 rs) i nowhere in
          let at : Found kept 0 rs i s = found kept 0 rs i h l in
          let z : s - 0 ≡ s = omega arith in
          (omega (arith, at.high), rw z at at.key)

  -- there are as many positions as there can be
  pub closed_index_long : length is ≡ length rs → length rs ≤ nowhere →
      length (remapped (positions kept 0 rs) is) ≡ length (closed kept rs)
  closed_index_long long few =
      length_remapped (ones kept rs) (positions kept 0 rs) is
      (λ i o. one_placed kept 0 rs i (rise_each rs 0 is rises i o).0 (omega arith))
      ∙ sum_along_lem (ones kept rs) is
      (λ i some. each_once rs is long rises i
      (omega (arith, in_list (ones kept rs) i some, length_ones kept rs)))
      ∙ sym (sum_ones kept rs)

  pub index_after_closing : length is ≡ length rs → length rs ≤ nowhere →
      (index_rises (closed kept rs) 0 (remapped (positions kept 0 rs) is) ≡ true)
      × (length (remapped (positions kept 0 rs) is) ≡ length (closed kept rs))
  index_after_closing long few = (closed_rises, closed_index_long long few)
