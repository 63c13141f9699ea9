-- A field at the front of the bytes, and the loop over the fields of a record. Assumes nothing.
use mathlib.Core.Path.{◌≡◌, refl, ap₂, ◌∙◌}
use mathlib.Core.Bool.{Bool, true, false, cond}
use mathlib.Core.List.{List, [], ◌∷◌}
use Prim.Native.Nat.{ℕ, ◌+◌, ◌*◌, ◌≤◌, ◌<◌}
use native.Mathlib.Numerals.{add-one}
use native.Mathlib.Omega.{arith}
use lib.ListN.{length, get_or, drop, length-drop, drop_of_length-le}
use lib.Seq.{drop-cons, drop-drop}
use lib.Dec.{ltb, leb}
use borrow.Author.Tests.{lt-ltb, le-ltb, leb-true}
use Rattle.wire.specs.declared.Reading.{Reading}
use Rattle.wire.specs.Size.{is_variable}
use Rattle.output_fields.specs.Field.{Span, Whole, Cut, span_of, variable_field, field_of}
use Rattle.output_scan.specs.Scan.{behind, followed_by, fields_of}

-- A field that says its length itself, by its first byte.
module _ (s : List ℕ) where
  pub short_prefix : 0 < length s → get_or s 0 0 < 255 → variable_field s ≡ span_of 1 (get_or s 0 0) (length s)
  unfolding variable_field
  short_prefix h k = rw (lt-ltb 0 (length s) h, lt-ltb (get_or s 0 0) 255 k)

  pub cut_prefix : 0 < length s → 255 ≤ get_or s 0 0 → length s ≤ 2 → Cut ≡ variable_field s
  unfolding variable_field
  cut_prefix h k l = rw (lt-ltb 0 (length s) h, le-ltb (get_or s 0 0) 255 k, le-ltb 2 (length s) l)

  pub long_prefix : 0 < length s → 255 ≤ get_or s 0 0 → 2 < length s →
      variable_field s ≡ span_of 3 (get_or s 1 0 * 256 + get_or s 2 0) (length s)
  unfolding variable_field
  long_prefix h k l = rw (lt-ltb 0 (length s) h, le-ltb (get_or s 0 0) 255 k, lt-ltb 2 (length s) l)

-- A whole span ends within so many bytes, and has no more content than bytes.
abbrev pub Within : ℕ → Span → Type 0
Within available (Whole size content) = (size ≤ available) × (content ≤ size)
Within available Cut = Unit {0}

within_either : (available : ℕ) (b : Bool) (x y : Span) → Within available x → Within available y →
    Within available (cond b x y)
within_either available true x y p q = p
within_either available false x y p q = q

within_span : (prefix n available : ℕ) → Within available (span_of prefix n available)
within_span prefix n available = by_test (leb (prefix + n) available) refl
  where
    by_test : (b : Bool) → leb (prefix + n) available ≡ b → Within available (cond b (Whole (prefix + n) n) Cut)
    by_test true e = (leb-true _ _ e, omega arith)
    by_test false e = tt

within_variable : (s : List ℕ) → Within (length s) (variable_field s)
unfolding variable_field
within_variable s =
    within_either (length s) (ltb 0 (length s)) _ _
    (within_either (length s) (ltb (get_or s 0 0) 255) _ _
    (within_span 1 (get_or s 0 0) (length s))
    (within_either (length s) (ltb 2 (length s)) _ _
    (within_span 3 (get_or s 1 0 * 256 + get_or s 2 0) (length s))
    tt))
    tt

field_within : (s : List ℕ) (w : ℕ) (r : Reading) → Within (length s) (field_of s w r)
unfolding field_of
field_within s w r =
    within_either (length s) (is_variable w r) _ _ (within_variable s) (within_span 0 w (length s))

within_followed : (s : List ℕ) (x : Span) (next : ℕ → Span) → Within (length s) x →
    ((a : ℕ) → Within (length (drop a s)) (next a)) → Within (length s) (followed_by x next)
within_followed s (Whole a n) next p q = by_next (next a) (q a)
  where
    by_next : (y : Span) → Within (length (drop a s)) y → Within (length s) (behind a n y)
    by_next (Whole a' n') h = omega (arith, length-drop a s)
    by_next Cut h = tt
within_followed s Cut next p q = tt

pub fields_within : (s ws : List ℕ) (r : Reading) → Within (length s) (fields_of s ws r)
unfolding fields_of
fields_within s [] r = (omega arith, omega arith)
fields_within s (w ∷ ws) r =
    within_followed s (field_of s w r) (λ a. fields_of (drop a s) ws r) (field_within s w r)
    (λ a. fields_within (drop a s) ws r)

-- Fields behind others.
behind_none : (x : Span) → x ≡ behind 0 0 x
behind_none (Whole s n) = ap₂ Whole (omega arith) (omega arith)
behind_none Cut = refl

behind_behind : (a p s n : ℕ) (x : Span) → behind a p (behind s n x) ≡ behind (a + s) (p + n) x
behind_behind a p s n (Whole s' n') = ap₂ Whole (omega arith) (omega arith)
behind_behind a p s n Cut = refl

-- The loop over the fields of a record: i fields passed, in `at` bytes with `content` bytes of content.
pub record FieldsPassed (bytes ws : List ℕ) (r : Reading) (at content i : ℕ) : Type 0 where
  -- no more fields than widths
  pub passed : i ≤ length ws
  -- they lie within the bytes
  pub inside : at ≤ length bytes
  -- a prefix is no content
  pub no_more_content : content ≤ at
  -- the record is what was passed, and then the fields that are left
  pub left : fields_of bytes ws r ≡ behind at content (fields_of (drop at bytes) (drop i ws) r)

pub no_field_passed : (bytes ws : List ℕ) (r : Reading) → FieldsPassed bytes ws r 0 0 0
no_field_passed bytes ws r =
    record { passed = omega arith; inside = omega arith; no_more_content = omega arith; left = behind_none _ }

module _ {bytes ws : List ℕ} {r : Reading} {at content i : ℕ} (inv : FieldsPassed bytes ws r at content i) where
  next_field : {s n : ℕ} → i < length ws → field_of (drop at bytes) (get_or ws i 0) r ≡ Whole s n →
      behind at content (fields_of (drop at bytes) (drop i ws) r)
      ≡ behind (at + s) (content + n) (fields_of (drop (at + s) bytes) (drop (i + 1) ws) r)
  unfolding fields_of
  next_field {s} {n} h e = rw (add-one, drop-cons ws i 0, e, drop-drop s at bytes, behind_behind)

  pub field_passed : {s n : ℕ} → i < length ws → field_of (drop at bytes) (get_or ws i 0) r ≡ Whole s n →
      FieldsPassed bytes ws r (at + s) (content + n) (i + 1)
  field_passed h e =
      let g = rw e at (field_within (drop at bytes) (get_or ws i 0) r) in
      let d = length-drop at bytes in
      record {
        passed = omega arith;
        inside = omega arith;
        no_more_content = omega arith;
        left = inv.left
            ∙ next_field h e;
      }

  pub field_cut : i < length ws → field_of (drop at bytes) (get_or ws i 0) r ≡ Cut → fields_of bytes ws r ≡ Cut
  unfolding fields_of
  field_cut h e = inv.left ∙ rw (drop-cons ws i 0, e)

  pub all_passed : length ws ≤ i → fields_of bytes ws r ≡ Whole at content
  unfolding fields_of
  all_passed h = inv.left ∙ rw (drop_of_length-le ws h) (ap₂ Whole (omega arith) (omega arith))
