-- A body filled from the front, byte i with i modulo 256. Assumes nothing.
use mathlib.Core.Path.{◌≡◌, refl, ap, ◌∙◌}
use mathlib.Core.List.{List, [], ◌∷◌, ◌++◌, append-nil}
use Prim.Native.Nat.{ℕ, zero, suc, ◌+◌, ◌%◌, ◌≤◌, ◌<◌}
use native.Mathlib.Nat.{add-zero, add-suc, suc-add, zero-add}
use native.Mathlib.Numerals.{add-one}
use native.Mathlib.Omega.{arith}
use lib.ListN.{length, drop, set, length-set}
use lib.Seq.{drop-cons, drop-length, set_at, append_snoc}
use Rattle.pendlist_input.specs.Body.{ramp}

length_ramp : (j n : ℕ) → length (ramp j n) ≡ n
unfolding ramp
length_ramp j zero = refl
length_ramp j (suc n) = ap suc (length_ramp (suc j) n)

-- one byte more at the back
ramp_more : (j n : ℕ) → ramp j (suc n) ≡ ramp j n ++ ((j + n) % 256 ∷ [])
unfolding ramp
ramp_more j zero = rw add-zero
ramp_more j (suc n) = ap (λ (l : List ℕ). j % 256 ∷ l) (ramp_more (suc j) n ∙ rw (suc-add, add-suc))

-- The loop: the first i bytes are filled.
pub record Filled (body₀ body : List ℕ) (i : ℕ) : Type 0 where
  pub passed : i ≤ length body₀
  pub same_length : length body ≡ length body₀
  pub now_is : body ≡ ramp 0 i ++ drop i body₀

pub none_filled : (body : List ℕ) → Filled body body 0
unfolding ramp
none_filled body = record { passed = omega arith; same_length = refl; now_is = refl }

module _ {body₀ body : List ℕ} {i : ℕ} (inv : Filled body₀ body i) where
  pub one_filled : i < length body → Filled body₀ (set body i (i % 256)) (i + 1)
  one_filled h =
      let g : i < length body₀ = omega (arith, inv.same_length) in
      record {
        passed = omega arith;
        same_length = length-set body i (i % 256) ∙ inv.same_length;
        now_is =
            rw (inv.now_is, add-one, ramp_more 0 i, zero-add, append_snoc, drop-cons body₀ i 0 g)
            (set_at (ramp 0 i) _ _ (i % 256) i (length_ramp 0 i));
      }

  pub all_filled : length body ≤ i → body ≡ ramp 0 (length body₀)
  all_filled h =
      let z : i ≡ length body₀ = omega (arith, inv.same_length) in
      inv.now_is ∙ rw (z, drop-length, append-nil)

pub ruleset filling = (none_filled, all_filled)
