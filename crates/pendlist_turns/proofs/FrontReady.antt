-- What is ready of the bytes that are there. Assumes nothing.
use mathlib.Core.Path.{◌≡◌}
use mathlib.Core.List.{List}
use Prim.Native.Nat.{ℕ, ◌-◌, ◌≤◌, ◌<◌}
use native.Mathlib.Omega.{arith}
use lib.ListN.{length}
use borrow.Author.Tests.{eq-eqb, ne_eqb, le-leb, lt-leb}
use Rattle.pendlist_input.specs.Input.{whole_lines}
use Rattle.pendlist_turns.specs.Turns.{ready_of, Ready}

module _ (there : List ℕ) (kept : ℕ) where
  pub all_at_end : length there ≡ kept → Ready there kept (length there)
  unfolding ready_of
  all_at_end e = record {
    count = rw (eq-eqb (length there) kept e);
    among = omega arith;
    few_left = omega arith;
  }

  module _ {lines : ℕ} (more : length there ≡ kept → ⊥) (counted : lines ≡ whole_lines there) where
    pub all_too_long : 255 < length there - lines → Ready there kept (length there)
    unfolding ready_of
    all_too_long long = record {
      count = rw (ne_eqb (length there) kept more, ← counted, lt-leb (length there - lines) 255 long);
      among = omega arith;
      few_left = omega arith;
    }

    pub lines_ready : lines ≤ length there → length there - lines ≤ 255 → Ready there kept lines
    unfolding ready_of
    lines_ready among short = record {
      count = rw (ne_eqb (length there) kept more, ← counted, le-leb (length there - lines) 255 short);
      among = among;
      few_left = short;
    }

pub ruleset readiness = (all_at_end, all_too_long, lines_ready)
