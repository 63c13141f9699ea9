-- The words once a header is written. Assumes nothing.
use Rattle.std.proofs.Common.{Option, Some, None}
use mathlib.Core.Path.{◌≡◌, ap, ◌∙◌}
use mathlib.Core.List.{List, ◌++◌}
use Prim.Native.Nat.{ℕ, ◌+◌, ◌-◌, ◌≤◌}
use native.Mathlib.Omega.{arith}
use lib.ListN.{length, drop, length-drop}
use lib.Seq.{drop-drop, drop-append-add}
use Rattle.config.specs.declared.PendingFlowsConfig.{PendingFlowsConfig}
use Rattle.table.specs.Layout.{ttl_set, limits_of}
use Rattle.cache_model.specs.Told.{limits_of as limits_from}
use Rattle.pending_flows.specs.declared.header.HeaderFigures.{HeaderFigures}
use Rattle.pending_flows.specs.Header.{ttl_flag, header_of}
use Rattle.pending_flows.proofs.Openings.{ttl_back}

abbrev pub headed : PendingFlowsConfig → HeaderFigures → List ℕ → List ℕ
headed l f w = header_of l f ++ drop 12 w

module _ (l : PendingFlowsConfig) (f : HeaderFigures) (w : List ℕ) where
  pub headed_flag : ttl_set (headed l f w) ≤ 1
  headed_flag = small l.ttl
    where
      small : (t : Option ℕ) → ttl_flag t ≤ 1
      small None = omega arith
      small (Some n) = omega arith

  pub headed_limits : limits_of (headed l f w) ≡ l
  headed_limits =
      ap
      (λ (t : Option ℕ).
      limits_from l.max_pending_flows l.max_entries_per_template l.max_entry_size_bytes
      l.max_total_bytes t)
      (ttl_back l.ttl)

  pub headed_length : 12 ≤ length w → length (headed l f w) ≡ length w
  headed_length h = omega (arith, length-drop 12 w)

  -- what stands behind the header still does
  pub headed_behind : (n : ℕ) → 12 ≤ n → drop n (headed l f w) ≡ drop n w
  headed_behind n h =
      let m = n - 12 in
      let z : n ≡ 12 + m = omega arith in
      rw z (drop-append-add (header_of l f) (drop 12 w) m ∙ drop-drop m 12 w)
