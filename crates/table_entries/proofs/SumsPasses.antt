-- The passes that sum entries, turn by turn. Assumes nothing.
use Rattle.std.proofs.Common.{Option, Some, None, ◌≡◌, ℕ, ◌+◌, ◌≤◌, min, Bool, true, false, cond, List, [], ◌∷◌, length, drop, get_or, sym, ◌∙◌}
use lib.Seq.{set_out}
use Rattle.std.proofs.lemmas.Option.{none-some, same_Some}
use Rattle.table.specs.declared.Entry.{Entry}
use Rattle.table.proofs.Parts.{part_first, no_part}
use Rattle.table_entries.specs.declared.StayTest.{StayTest}
use Rattle.table_entries.specs.Stays.{stays}
use Rattle.table_entries.specs.Sums.{sum_most, more_at, share, summed}

-- a label that is none has no sum
pub none_added : (sums : List ℕ) (label n : ℕ) → length sums ≤ label → sums ≡ more_at sums label n
none_added sums label n h = sym (set_out sums label (min (get_or sums label 0 + n) sum_most) h)

-- the first i entries are in the sums: what is left makes the whole's sums of these
pub record SumsPassed (q : StayTest) (bytes : Bool) (es : List Entry) (sums₀ sums : List ℕ) (i : ℕ) : Type 0 where
  pub rest : summed q bytes sums (drop i es) ≡ summed q bytes sums₀ es

module _ {q : StayTest} {bytes : Bool} {es : List Entry} {sums₀ sums : List ℕ} {i : ℕ}
    (inv : SumsPassed q bytes es sums₀ sums i) where
  pub all_summed : drop i es ≡ [] → sums ≡ summed q bytes sums₀ es
  unfolding summed
  all_summed none = rw none at inv.rest

  module _ {e : Entry} {n : Option ℕ} (some : drop i es ≡ e ∷ drop (i + 1) es)
      (tells : n ≡ cond (stays q e) (Some (share bytes e)) None) where
    next : summed q bytes (cond (stays q e) (more_at sums e.label (share bytes e)) sums) (drop (i + 1) es)
        ≡ summed q bytes sums₀ es
    unfolding summed
    next = rw some at inv.rest

    pub entry_summed : {more : ℕ} {sums' : List ℕ} → n ≡ Some more → sums' ≡ more_at sums e.label more →
        SumsPassed q bytes es sums₀ sums' (i + 1)
    entry_summed {more} {sums'} is after = record { rest = by_test (stays q e) (sym tells ∙ is) next }
      where
        by_test : (t : Bool) → cond t (Some (share bytes e)) None ≡ Some more →
            summed q bytes (cond t (more_at sums e.label (share bytes e)) sums) (drop (i + 1) es)
            ≡ summed q bytes sums₀ es → summed q bytes sums' (drop (i + 1) es) ≡ summed q bytes sums₀ es
        by_test true s h = rw (after, sym (same_Some _ _ s)) h
        by_test false s h = absurd (none-some _ s)

    pub entry_passed : n ≡ None → SumsPassed q bytes es sums₀ sums (i + 1)
    entry_passed is = record { rest = by_test (stays q e) (sym tells ∙ is) next }
      where
        by_test : (t : Bool) → cond t (Some (share bytes e)) None ≡ None →
            summed q bytes (cond t (more_at sums e.label (share bytes e)) sums) (drop (i + 1) es)
            ≡ summed q bytes sums₀ es → summed q bytes sums (drop (i + 1) es) ≡ summed q bytes sums₀ es
        by_test true s h = absurd (none-some _ (sym s))
        by_test false s h = h

pub ruleset passes = (all_summed, entry_summed, entry_passed, part_first, no_part)
