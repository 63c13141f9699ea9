-- The resize behind its tests: damaged areas, refused limits, or a cache that is resized. Assumes nothing.
use Rattle.std.proofs.Common.{Ok, Err}
use mathlib.Core.Path.{◌≡◌, refl, sym, ◌∙◌}
use mathlib.Core.Bool.{false}
use mathlib.Core.List.{List}
use mathlib.Core.Option.{some}
use Prim.Native.Nat.{ℕ}
use native.Mathlib.Omega.{arith}
use lib.ListN.{length}
use borrow.Author.Tests.{eq-eqb, ne_eqb}
use Rattle.config.specs.declared.PendingFlowsConfig.{PendingFlowsConfig}
use Rattle.config.specs.declared.ConfigRefusal.{ConfigRefusal}
use Rattle.config.specs.declared.ConfigRefusal.TheVariants.{NoTemplates, NoEntries, EntrySize, TotalBytes, Areas}
use Rattle.config.specs.Limits.{refusal_number, config_number}
use Rattle.table.specs.Table.{table_of}
use Rattle.table.specs.WellFormed.{well_formed}
use Rattle.cache_model.specs.Calls.{resized}
use Rattle.pending_flows.specs.View.{areas_of, cache_of, view}
use Rattle.pending_flows.specs.declared.header.Header.{Header}
use Rattle.pending_flows.specs.Header.{HoldsCache}
use Rattle.pending_flows.proofs.Questions.{view_some}
use Rattle.pending_calls.proofs.Performed.{damaged_performs, untouched_all, some_none}
use Rattle.pending_resize.specs.declared.resizing.ResizeRefusal.TheVariants as Refusal
use Rattle.pending_resize.specs.Promises.{Resizes, ResizesTo}

-- a refusal has a number
refusal_some : (n : ConfigRefusal) → refusal_number n ≡ 0 → ⊥
refusal_some NoTemplates e = omega arith
refusal_some NoEntries e = omega arith
refusal_some EntrySize e = omega arith
refusal_some TotalBytes e = omega arith
refusal_some Areas e = omega arith

module _ (l : PendingFlowsConfig) (w b : List ℕ) where
  pub resize_damaged : well_formed w (length b) ≡ false → Resizes l (areas_of w b) (Err Refusal.Damaged) (areas_of w b)
  resize_damaged damaged = record {
    performs = damaged_performs w b (resized l (length b) (length w)) damaged;
    refused = λ n e. refl;
    frame = untouched_all _ _ _;
  }

  module _ {h : Header} (holds : HoldsCache h w (length b)) where
    cached : view (areas_of w b) ≡ some (cache_of (table_of w) b)
    cached = view_some w b holds.legal

    pub resize_refused : {n : ConfigRefusal} → refusal_number n ≡ config_number l (length b) (length w) →
        Resizes l (areas_of w b) (Err (Refusal.Limits n)) (areas_of w b)
    unfolding resized
    resize_refused {n} e = record {
      performs = record {
        answer = rw (cached, ← e, ne_eqb (refusal_number n) 0 (refusal_some n));
        holds = rw (cached, ← e, ne_eqb (refusal_number n) 0 (refusal_some n));
        damaged = λ _. refl;
      };
      refused = λ m e. refl;
      frame = untouched_all _ _ _;
    }

    module _ (accepted : 0 ≡ config_number l (length b) (length w)) where
      pub resize_done : {w' b' : List ℕ} {k : ℕ} →
          ResizesTo l (cache_of (table_of w) b) (areas_of w b) k (areas_of w' b') →
          Resizes l (areas_of w b) (Ok k) (areas_of w' b')
      unfolding resized
      resize_done s =
          let zero = eq-eqb (config_number l (length b) (length w)) 0 (sym accepted) in
          record {
            performs = record {
              answer = rw (cached, zero) s.answer;
              holds = rw (cached, zero) s.holds;
              damaged = λ n. absurd (some_none (sym cached ∙ n));
            };
            refused = λ n e. let z : ◌≡◌ {A = ℕ} 0 1 = cc in absurd (omega arith);
            frame = s.frame;
          }
