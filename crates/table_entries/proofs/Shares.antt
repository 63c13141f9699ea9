-- What each entry adds, as a closure tells it: one or its length where every entry stays, or one where it does.
-- Assumes nothing.
use Rattle.std.proofs.Common.{Option, Some, None, ◌≡◌, ℕ, ◌^◌, ◌<◌, true, false, arith, refl, ◌∙◌, le-leb}
use mathlib.Core.Bool.{and-false}
use Rattle.table.specs.declared.Entry.{Entry}
use Rattle.table_entries.specs.declared.StayTest.{StayTest}
use Rattle.table_entries.specs.Stays.{stays}
use Rattle.table_entries.specs.Sums.{TellsShares}

-- by a test without a time to live, and without a largest size
module _ (clock : ℕ) (only : Option ℕ) where
  abbrev pub unaged : StayTest
  unaged = record { ttl = None; clock = clock; only = only; max_size = 18446744073709551615 }

  every_stays : (e : Entry) → e.len < 2 ^ 64 → stays unaged e ≡ true
  unfolding stays
  every_stays e short = rw (and-false _, le-leb e.len 18446744073709551615 (omega arith))

  pub ones_told : {answers : Entry → Option ℕ → Type 0} →
      ((e : Entry) (n : Option ℕ) → answers e n → n ≡ Some 1) →
      TellsShares answers unaged false
  ones_told ones e n short told = ones e n told ∙ rw (every_stays e short) refl

  pub lengths_told : {answers : Entry → Option ℕ → Type 0} →
      ((e : Entry) (n : Option ℕ) → answers e n → n ≡ Some e.len) →
      TellsShares answers unaged true
  lengths_told lens e n short told = lens e n told ∙ rw (every_stays e short) refl
