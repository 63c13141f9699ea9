-- Calls behind the test of 28: damaged areas, or a cache that the definition changes. Assumes nothing.
use mathlib.Core.Path.{◌≡◌, refl, sym, ap, ◌∙◌}
use mathlib.Core.Bool.{true, false}
use mathlib.Core.List.{List}
use mathlib.Core.Option.{Option, none, some}
use Prim.Native.Nat.{ℕ}
use lib.ListN.{length}
use native.Mathlib.Omega.{arith}
use Rattle.table.specs.Table.{table_of}
use Rattle.table.specs.WellFormed.{well_formed}
use Rattle.cache_model.specs.Cache.{Cache, Answer, number, Outcome}
use Rattle.pending_flows.specs.View.{Areas, areas_of, cache_of}
use Rattle.pending_flows.proofs.Questions.{view_none, view_some}
use Rattle.pending_calls.specs.Promises.{Untouched, Performs, Does}

-- a cache is not none
is_some : Option Cache → ℕ
is_some none = 0
is_some (some c) = 1

pub some_none : {c : Cache} → some c ≡ none → ⊥
unfolding is_some
some_none e = let z : ◌≡◌ {A = ℕ} 1 0 = ap is_some e in omega arith

module _ (w b : List ℕ) (f : Cache → Outcome) where
  pub damaged_performs : well_formed w (length b) ≡ false → Performs f (areas_of w b) (number 28) (areas_of w b)
  damaged_performs damaged =
      let none = view_none w b damaged in
      record { answer = rw none; holds = rw none; damaged = λ _. refl }

  pub performed : {w' b' : List ℕ} {r : Answer} → well_formed w (length b) ≡ true
      → Does f (cache_of (table_of w) b) (areas_of w b) r (areas_of w' b') → Performs f (areas_of w b) r
      (areas_of w' b')
  performed ok d =
      let some = view_some w b ok in
      record {
        answer = rw some d.answer;
        holds = rw some d.holds;
        damaged = λ n. absurd (some_none (sym some ∙ n));
      }

pub untouched_all : (m n : ℕ) (a : Areas) → Untouched m n a a
untouched_all m n a = record { words_behind = refl; bytes_behind = refl; words_long = refl; bytes_long = refl }
