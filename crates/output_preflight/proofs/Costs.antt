-- The cost behind the tests of a preflight. Assumes nothing.
use mathlib.Core.Path.{◌≡◌, ap, ◌∙◌}
use mathlib.Core.List.{List}
use Prim.Native.Nat.{ℕ, ◌≤◌, ◌<◌}
use native.Mathlib.Nat.{pos_of_ne-zero}
use lib.ListN.{length}
use borrow.Author.Tests.{le-leb, lt-ltb}
use Rattle.wire.specs.declared.Reading.{Reading}
use Rattle.wire.specs.Size.{least_size}
use Rattle.wire.proofs.Sizes.{some_width}
use Rattle.output_scan.specs.declared.Scanned.{Scanned}
use Rattle.output_scan.specs.Scan.{scan_of}
use Rattle.output_preflight.specs.Preflight.{Answer, cost_of, preflight_of}

-- past the tests for 9, 12 and a least size of 0, the answer is the cost of what the scan finds
module _ (body ws : List ℕ) (r : Reading) (limit : ℕ) where
  pub cost_by_scan : {least : ℕ} {x : Scanned} {a : Answer} → (limit ≡ 0 → ⊥) → length body ≤ 65531 →
      length ws ≤ 65535 → least ≡ least_size ws r → (least ≡ 0 → ⊥) → x ≡ scan_of body ws r limit →
      a ≡ cost_of x (length ws) least r → a ≡ preflight_of body ws r limit
  unfolding preflight_of
  cost_by_scan {x = x} some-limit short-body few-widths e h f g =
      let sized : 0 < least_size ws r = rw e at (pos_of_ne-zero h) in
      g
      ∙ ap (λ (n : ℕ). cost_of x (length ws) n r) e
      ∙ ap (λ (y : Scanned). cost_of y (length ws) (least_size ws r) r) f
      ∙ rw (
        lt-ltb 0 limit (pos_of_ne-zero some-limit),
        le-leb (length body) 65531 short-body,
        le-leb (length ws) 65535 few-widths,
        lt-ltb 0 (least_size ws r) sized,
        lt-ltb 0 (length ws) (some_width ws r sized),
      )
