-- Lists read and written at places that may be past their end. Assumes nothing.
use mathlib.Core.Path.{◌≡◌, refl, sym}
use mathlib.Core.List.{List, [], ◌∷◌}
use Prim.Native.Nat.{ℕ, zero, suc, ◌≤◌, ◌<◌}
use native.Mathlib.Omega.{arith}
use lib.ListN.{length, get_or, set, get_or-eq_default}
use lib.Seq.{set_out}

pub past_end : (l : List ℕ) (i d : ℕ) → length l ≤ i → d ≡ get_or l i d
past_end l i d h = sym (get_or-eq_default l d h)

pub set_past_end : (l : List ℕ) (i a : ℕ) → length l ≤ i → l ≡ set l i a
set_past_end l i a h = sym (set_out l i a h)

-- within the list it does not matter what stands for what is past the end
pub within_end : (l : List ℕ) (i d e : ℕ) → i < length l → get_or l i d ≡ get_or l i e
within_end [] i d e h = absurd (omega arith)
within_end (x ∷ l) zero d e h = refl
within_end (x ∷ l) (suc i) d e h = within_end l i d e (omega arith)
