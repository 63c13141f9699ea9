-- Areas before and after clearing. Assumes nothing.
use Rattle.std.proofs.Common.{Ok, Err}
use mathlib.Core.Path.{◌≡◌, refl, ◌∙◌}
use mathlib.Core.Bool.{false}
use mathlib.Core.List.{List}
use mathlib.Core.Option.{some}
use Prim.Native.Nat.{ℕ, ◌≤◌}
use native.Mathlib.Omega.{arith}
use lib.ListN.{length}
use borrow.Author.Tests.{le-leb, eq-eqb}
use Rattle.areas.specs.Overwrite.{overwritten}
use Rattle.config.specs.Limits.{config_number, words_needed, max_bodies}
use Rattle.config.proofs.Limits.{limits_hold}
use Rattle.table.specs.Layout.{limits_of, cached_word, dropped_word, ttl_set}
use Rattle.table.specs.Table.{table_of, entries_from, records_from, index_from}
use Rattle.table.specs.WellFormed.{well_formed, index_rises}
use Rattle.table.proofs.Facts.{LegalWords, words_say}
use Rattle.cache_model.specs.Cache.{done}
use Rattle.cache_model.specs.Calls.{cleared}
use Rattle.pending_flows.specs.View.{areas_of, cache_of, view}
use Rattle.pending_flows.specs.declared.header.HeaderFigures.{HeaderFigures}
use Rattle.pending_flows.specs.declared.header.Header.{Header}
use Rattle.pending_flows.specs.Header.{HoldsCache, header_of}
use Rattle.pending_flows.proofs.Questions.{header_is}
use Rattle.pending_calls.specs.Promises.{Does, Clears}
use Rattle.pending_calls.proofs.Performed.{damaged_performs, performed, untouched_all}
use Rattle.pending_calls.proofs.Headers.{headed, headed_flag, headed_limits, headed_length, headed_behind}

-- nothing held, nothing handed out, and the counters as they were
abbrev emptied : List ℕ → HeaderFigures
emptied w = record {
  cached = cached_word w;
  dropped = dropped_word w;
  total = 0;
  templates = 0;
  entries = 0;
  chance = 0;
}

module _ (w b : List ℕ) {h : Header} (cached : HoldsCache h w (length b)) where
  legal : LegalWords w (length b)
  legal = words_say w (length b) cached.legal

  empty_view : view (areas_of (headed (limits_of w) (emptied w) w) b) ≡ some (cleared (cache_of (table_of w) b)).cache
  unfolding view well_formed entries_from records_from index_from index_rises cleared
  empty_view =
      let l = limits_of w in
      rw (
        headed_limits l (emptied w) w,
        headed_length l (emptied w) w (omega (arith, legal.header_long)),
        le-leb 64 (length w) legal.header_long,
        eq-eqb (config_number l (length b) (length w)) 0 (limits_hold l (length b) (length w) legal.limits_legal_lem),
        le-leb (ttl_set (headed l (emptied w) w)) 1 (headed_flag l (emptied w) w),
        le-leb 0 l.max_pending_flows (omega arith),
        le-leb 0 (max_bodies l) (omega arith),
      )

  pub header_emptied : (w' : List ℕ) → w' ≡ overwritten w (header_of h.limits (record {
    cached = h.figures.cached;
    dropped = h.figures.dropped;
    total = 0;
    templates = 0;
    entries = 0;
    chance = 0;
  }))
      → Does cleared (cache_of (table_of w) b) (areas_of w b) done (areas_of w' b)
  unfolding overwritten cleared
  header_emptied w' written =
      let z : w' ≡ headed (limits_of w) (emptied w) w = written ∙ rw (header_is w (length b) cached) in
      let long : 12 ≤ length w = omega (arith, legal.header_long) in
      rw z
      (record {
        answer = refl;
        holds = empty_view;
        frame = record {
          words_behind = headed_behind (limits_of w) (emptied w) w (words_needed (limits_of w)) (omega arith);
          bytes_behind = refl;
          words_long = headed_length (limits_of w) (emptied w) w long;
          bytes_long = refl;
        };
      })

-- the call, behind the test of 28
module _ (w b : List ℕ) where
  pub clear_damaged : well_formed w (length b) ≡ false → Clears (areas_of w b) (Err (record {})) (areas_of w b)
  clear_damaged damaged = record { performs = damaged_performs w b cleared damaged; frame = untouched_all _ _ _ }

  pub clear_done : {h : Header} → HoldsCache h w (length b) → {w' b' : List ℕ} →
      Does cleared (cache_of (table_of w) b) (areas_of w b) done (areas_of w' b') →
      Clears (areas_of w b) (Ok tt) (areas_of w' b')
  clear_done holds d = record { performs = performed w b cleared holds.legal d; frame = d.frame }
