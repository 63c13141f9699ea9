-- Where no field says its length itself, every record has the least size, and the scan is a division: v9 and IPFIX
-- alike.
-- Assumes nothing.
use mathlib.Core.Path.{◌≡◌, refl, ap, ap₂, sym, ◌∙◌}
use mathlib.Core.Bool.{false}
use mathlib.Core.List.{List, [], ◌∷◌}
use Prim.Native.Nat.{ℕ, zero, suc, ◌+◌, ◌*◌, ◌-◌, ◌/◌, ◌≤◌, ◌<◌, min}
use native.Mathlib.Nat.{suc-mul, div-mul-le_self, lt-div-mul-add, mul-le-mul_right, min-le_left, min-le_right}
use native.Mathlib.Omega.{arith}
use lib.ListN.{length, drop, length-drop}
use borrow.Author.Tests.{le-leb}
use Rattle.wire.specs.declared.Reading.{Reading}
use Rattle.wire.specs.Size.{is_variable, least_size}
use Rattle.output_scan.specs.declared.Scanned.{Scanned}
use Rattle.output_fields.specs.Field.{Whole, field_of}
use Rattle.output_scan.specs.Scan.{fields_of, record_of, scan_of, fixed_scan_of}
use Rattle.output_scan.proofs.Records.{same_figures_lem, takes_some, cut_field, scan_none, scan_cut}
use Rattle.output_scan.proofs.Records.{scan_whole}
use Rattle.output_scan.proofs.Least.{too_short}

-- no field says its length itself
unfoldable pub Plain : List ℕ → Reading → Type 0
Plain [] r = Unit {0}
Plain (w ∷ ws) r = (is_variable w r ≡ false) × Plain ws r

-- so it is in a reading in which none does
pub all_plain : (r : Reading) → ((w : ℕ) → is_variable w r ≡ false) → (ws : List ℕ) → Plain ws r
unfolding Plain
all_plain r e [] = tt
all_plain r e (w ∷ ws) = (e w, all_plain r e ws)

module _ (r : Reading) where
  pub fields_whole : (s ws : List ℕ) → Plain ws r → least_size ws r ≤ length s →
      fields_of s ws r ≡ Whole (least_size ws r) (least_size ws r)
  unfolding Plain least_size fields_of field_of
  fields_whole s [] plain h = refl
  fields_whole s (w ∷ ws) plain h =
      let g : w + least_size ws r ≤ length s = rw plain.0 at h in
      let k : least_size ws r ≤ length (drop (0 + w) s) = omega (arith, length-drop (0 + w) s) in
      rw (plain.0, le-leb (0 + w) (length s) (omega arith), fields_whole (drop (0 + w) s) ws plain.1 k) (ap₂ Whole
      (omega arith) refl)

  module _ (ws : List ℕ) (plain : Plain ws r) (some : 0 < least_size ws r) where
    record_whole : (s : List ℕ) → least_size ws r ≤ length s →
        record_of s ws r ≡ Whole (least_size ws r) (least_size ws r)
    record_whole s h = takes_some s ws r (fields_whole s ws plain h) (λ e. omega arith)

    -- q records, if so many fit, and no more do or no more may
    scan_equal_records : (q k : ℕ) (s : List ℕ) → q ≤ k → q * least_size ws r ≤ length s → (q < k →
        length s < q * least_size ws r + least_size ws r) →
        scan_of s ws r k
        ≡ record { records = q; payload = q * least_size ws r; remainder = length s - q * least_size ws r }
    scan_equal_records zero zero s h l m = scan_none s ws r ∙ same_figures_lem refl (omega arith) (omega arith)
    scan_equal_records zero (suc k) s h l m =
        scan_cut s ws r k (cut_field s ws r (too_short s ws r (omega (arith, m (omega arith)))))
        ∙ same_figures_lem refl (omega arith) (omega arith)
    scan_equal_records (suc q) zero s h l m = absurd (omega arith)
    scan_equal_records (suc q) (suc k) s h l m =
        let e = suc-mul q (least_size ws r) in
        let d = length-drop (least_size ws r) s in
        scan_whole s ws r k (record_whole s (omega arith))
        ∙ rw (scan_equal_records q k (drop (least_size ws r) s) (omega arith) (omega arith) (λ t. omega (
          arith,
          m
              (omega arith),
        )))
        (same_figures_lem (omega arith) (omega arith) (omega arith))

    pub fixed_scan : (body : List ℕ) (limit : ℕ) → scan_of body ws r limit ≡ fixed_scan_of (length body)
        (least_size ws r) limit
    fixed_scan body limit =
        let d = least_size ws r in
        let n = length body / d in
        let a = div-mul-le_self (length body) d in
        let b = mul-le-mul_right d (min-le_left n limit) in
        scan_equal_records (min n limit) limit body (min-le_right n limit) (omega arith)
        (λ t. let e : min n limit ≡ n = omega arith in rw e (lt-div-mul-add some))

  -- the division's figures, for a least size that was worked out before
  pub by_division : (body ws : List ℕ) (limit least : ℕ) (x : Scanned) → Plain ws r → least ≡ least_size ws r →
      0 < least → x ≡ fixed_scan_of (length body) least limit → x ≡ scan_of body ws r limit
  by_division body ws limit least x plain e h f =
      f ∙ ap (λ (d : ℕ). fixed_scan_of (length body) d limit) e ∙ sym (fixed_scan ws plain (omega arith) body limit)
