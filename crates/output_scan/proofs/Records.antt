-- The scan of a body record by record, and the loop over its records. Assumes nothing.
use mathlib.Core.Path.{◌≡◌, refl, ap, ◌∙◌}
use mathlib.Core.Bool.{Bool, true, false, cond}
use mathlib.Core.List.{List}
use Prim.Native.Nat.{ℕ, zero, suc, ◌+◌, ◌-◌, ◌≤◌, ◌<◌}
use native.Mathlib.Nat.{sub-zero, pos_of_ne-zero}
use native.Mathlib.Omega.{arith}
use lib.ListN.{length, drop, length-drop}
use lib.Dec.{ltb}
use borrow.Author.Tests.{lt-ltb, ltb-true}
use Rattle.wire.specs.declared.Reading.{Reading}
use Rattle.output_scan.specs.declared.Scanned.{Scanned}
use Rattle.output_fields.specs.Field.{Span, Whole, Cut}
use Rattle.output_scan.specs.Scan.{fields_of, consuming, record_of, record_then, records_from, more, figures}
use Rattle.output_scan.specs.Scan.{scan_of}
use Rattle.output_scan.proofs.Fields.{Within, fields_within}

-- a whole span has at least one byte
abbrev TakesSome : Span → Type 0
TakesSome (Whole size content) = 0 < size
TakesSome Cut = Unit {0}

-- A record that takes nothing is none; any other is as its fields say.
module _ (bytes ws : List ℕ) (r : Reading) where
  pub takes_some : {s n : ℕ} → fields_of bytes ws r ≡ Whole s n → (s ≡ 0 → ⊥) → record_of bytes ws r ≡ Whole s n
  unfolding record_of
  takes_some {s} e h = rw (e, lt-ltb 0 s (pos_of_ne-zero h))

  pub cut_field : fields_of bytes ws r ≡ Cut → record_of bytes ws r ≡ Cut
  unfolding record_of
  cut_field e = rw e

  -- a whole record takes at least one byte
  record_within : Within (length bytes) (record_of bytes ws r) × TakesSome (record_of bytes ws r)
  unfolding record_of
  record_within = by_fields (fields_of bytes ws r) (fields_within bytes ws r)
    where
      by_fields : (x : Span) → Within (length bytes) x → Within (length bytes) (consuming x) × TakesSome (consuming x)
      by_fields Cut p = (tt, tt)
      by_fields (Whole s n) p = by_size (ltb 0 s) refl
        where
          by_size : (b : Bool) → ltb 0 s ≡ b →
              Within (length bytes) (cond b (Whole s n) Cut) × TakesSome (cond b (Whole s n) Cut)
          by_size true e = (p, ltb-true 0 s e)
          by_size false e = (tt, tt)

-- two scans are equal by their figures
pub same_figures_lem : {k k' n n' m m' : ℕ} → k ≡ k' → n ≡ n' → m ≡ m' →
    ◌≡◌ {A = Scanned} (record { records = k; payload = n; remainder = m })
    (record { records = k'; payload = n'; remainder = m' })
same_figures_lem p q o = λ j. record { records = p j; payload = q j; remainder = o j }

-- a scan's figures do not depend on the place that its bytes stand at
place_free : (at at' : ℕ) (bytes ws : List ℕ) (r : Reading) (k left : ℕ) →
    figures (records_from at bytes ws r k) left ≡ figures (records_from at' bytes ws r k) left
unfolding records_from figures
place_free at at' bytes ws r zero left = refl
place_free at at' bytes ws r (suc k) left =
    by_record (record_of bytes ws r) (λ s. place_free (at + s) (at' + s) (drop s bytes) ws r k (left - s))
  where
    by_record : (x : Span) →
        ((s : ℕ) → figures (records_from (at + s) (drop s bytes) ws r k) (left - s)
        ≡ figures (records_from (at' + s) (drop s bytes) ws r k) (left - s)) →
        figures (record_then at x (λ s. records_from (at + s) (drop s bytes) ws r k)) left
        ≡ figures (record_then at' x (λ s. records_from (at' + s) (drop s bytes) ws r k)) left
    by_record (Whole s n) ih = ap (more 1 n) (ih s)
    by_record Cut ih = refl

-- The scan by its first record.
module _ (bytes ws : List ℕ) (r : Reading) where
  pub scan_none : scan_of bytes ws r 0 ≡ record { records = 0; payload = 0; remainder = length bytes }
  unfolding scan_of records_from figures
  scan_none = refl

  pub scan_cut : (k : ℕ) → record_of bytes ws r ≡ Cut →
      scan_of bytes ws r (suc k) ≡ record { records = 0; payload = 0; remainder = length bytes }
  unfolding scan_of records_from figures
  scan_cut k e = rw e

  pub scan_whole : (k : ℕ) {s n : ℕ} → record_of bytes ws r ≡ Whole s n →
      scan_of bytes ws r (suc k) ≡ more 1 n (scan_of (drop s bytes) ws r k)
  unfolding scan_of records_from figures
  scan_whole k {s} {n} e = rw (e, length-drop s bytes) (ap (more 1 n) (place_free (0 + s) 0 (drop s bytes) ws r k
      (length bytes - s)))

-- The loop over the records of a body: `k` records passed with `payload` bytes of payload, and `rest` left.
pub record RecordsPassed (body ws : List ℕ) (r : Reading) (limit : ℕ) (rest : List ℕ) (k payload : ℕ) : Type 0 where
  -- no more records than the limit
  pub few : k ≤ limit
  -- payload and rest are different bytes of the body
  pub inside : payload + length rest ≤ length body
  -- the scan is what was passed, and then the scan of the rest
  pub left : scan_of body ws r limit ≡ more k payload (scan_of rest ws r (limit - k))

pub no_record_passed : (body ws : List ℕ) (r : Reading) (limit : ℕ) → RecordsPassed body ws r limit body 0 0
no_record_passed body ws r limit =
    record {
      few = omega arith;
      inside = omega arith;
      left = rw (sub-zero limit) (same_figures_lem (omega arith)
          (omega arith) refl);
    }

module _ {body ws : List ℕ} {r : Reading} {limit : ℕ} {rest : List ℕ} {k payload : ℕ}
    (inv : RecordsPassed body ws r limit rest k payload) where
  one_less : k < limit → limit - k ≡ suc (limit - (k + 1))
  one_less h = omega arith

  record_bounds : {s n : ℕ} → record_of rest ws r ≡ Whole s n →
      (s ≤ length rest) × (payload + n + (length rest - s) ≤ length body)
  record_bounds e = let h = rw e at (record_within rest ws r).0 in omega arith

  pub record_passed : {s n : ℕ} {next : List ℕ} → k < limit → record_of rest ws r ≡ Whole s n → next ≡ drop s rest →
      RecordsPassed body ws r limit next (k + 1) (payload + n)
  record_passed {s} {n} h e f =
      let g = record_bounds e in
      rw f
      (record {
        few = omega arith;
        inside = omega (arith, length-drop s rest);
        left = inv.left ∙ rw (one_less h, scan_whole rest ws r (limit - (k + 1)) e) (same_figures_lem (omega arith)
            (omega arith) refl);
      })

  pub stopped : k < limit → record_of rest ws r ≡ Cut →
      scan_of body ws r limit ≡ record { records = k; payload = payload; remainder = length rest }
  stopped h e = inv.left ∙ rw (one_less h, scan_cut rest ws r (limit - (k + 1)) e) (same_figures_lem (omega arith)
      (omega arith) refl)

  pub at_limit : limit ≤ k → scan_of body ws r limit
      ≡ record { records = k; payload = payload; remainder = length rest }
  at_limit h = let z : limit - k ≡ 0 = omega arith in inv.left
      ∙ rw (z, scan_none rest ws r) (same_figures_lem (omega arith) (omega arith) refl)

-- no more records than bytes
records_few : (bytes ws : List ℕ) (r : Reading) (k : ℕ) → (scan_of bytes ws r k).records ≤ length bytes
records_few bytes ws r zero = rw (scan_none bytes ws r) (omega arith)
records_few bytes ws r (suc k) = by_record (record_of bytes ws r) refl (record_within bytes ws r)
    (λ s. records_few (drop s bytes) ws r k)
  where
    by_record : (x : Span) → record_of bytes ws r ≡ x → Within (length bytes) x × TakesSome x →
        ((s : ℕ) → (scan_of (drop s bytes) ws r k).records ≤ length (drop s bytes)) →
        (scan_of bytes ws r (suc k)).records ≤ length bytes
    by_record (Whole s n) e p ih = rw (scan_whole bytes ws r k e) (omega (arith, ih s, length-drop s bytes))
    by_record Cut e p ih = rw (scan_cut bytes ws r k e) (omega arith)

-- the same of a scan that was worked out before, for a body within the limit
pub scanned_few : (body ws : List ℕ) (r : Reading) (limit : ℕ) {x : Scanned} → x ≡ scan_of body ws r limit →
    length body ≤ 65531 → x.records ≤ 65531
scanned_few body ws r limit e h = let f = records_few body ws r limit in omega (
  arith,
  ap (λ
      (y : Scanned). y.records) e,
)
