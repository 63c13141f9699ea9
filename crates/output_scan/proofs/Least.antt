-- A record takes at least its least size: where there are fewer bytes it is cut. Assumes nothing.
use mathlib.Core.Path.{◌≡◌, refl}
use mathlib.Core.Bool.{Bool, true, false, cond}
use mathlib.Core.List.{List, [], ◌∷◌}
use Prim.Native.Nat.{ℕ, ◌+◌, ◌*◌, ◌≤◌, ◌<◌}
use native.Mathlib.Omega.{arith}
use lib.ListN.{length, get_or, drop}
use lib.Dec.{ltb, leb}
use Rattle.wire.specs.declared.Reading.{Reading}
use Rattle.wire.specs.Size.{is_variable, least_field_size, least_size}
use Rattle.output_fields.specs.Field.{Span, Whole, Cut, span_of, variable_field, field_of}
use Rattle.output_scan.specs.Scan.{behind, followed_by, fields_of}
use Rattle.output_scan.proofs.Fields.{Within, fields_within}

-- a whole span has at least so many bytes
abbrev AtLeast : ℕ → Span → Type 0
AtLeast k (Whole size content) = k ≤ size
AtLeast k Cut = Unit {0}

least_span : (k prefix n available : ℕ) → k ≤ prefix + n → AtLeast k (span_of prefix n available)
least_span k prefix n available h = by_test (leb (prefix + n) available)
  where
    by_test : (b : Bool) → AtLeast k (cond b (Whole (prefix + n) n) Cut)
    by_test true = h
    by_test false = tt

least_either : (k : ℕ) (b : Bool) (x y : Span) → AtLeast k x → AtLeast k y → AtLeast k (cond b x y)
least_either k true x y p q = p
least_either k false x y p q = q

least_variable : (s : List ℕ) → AtLeast 1 (variable_field s)
unfolding variable_field
least_variable s =
    least_either 1 (ltb 0 (length s)) _ _
    (least_either 1 (ltb (get_or s 0 0) 255) _ _
    (least_span 1 1 (get_or s 0 0) (length s) (omega arith))
    (least_either 1 (ltb 2 (length s)) _ _
    (least_span 1 3 (get_or s 1 0 * 256 + get_or s 2 0) (length s) (omega arith))
    tt))
    tt

least_field : (s : List ℕ) (w : ℕ) (r : Reading) → AtLeast (least_field_size w r) (field_of s w r)
unfolding field_of
least_field s w r = by_kind (is_variable w r)
  where
    by_kind : (b : Bool) → AtLeast (cond b 1 w) (cond b (variable_field s) (span_of 0 w (length s)))
    by_kind true = least_variable s
    by_kind false = least_span w 0 w (length s) (omega arith)

least_followed : (k l : ℕ) (x : Span) (next : ℕ → Span) → AtLeast k x → ((a : ℕ) → AtLeast l (next a)) →
    AtLeast (k + l) (followed_by x next)
least_followed k l (Whole a n) next p q = by_next (next a) (q a)
  where
    by_next : (y : Span) → AtLeast l y → AtLeast (k + l) (behind a n y)
    by_next (Whole a' n') h = omega arith
    by_next Cut h = tt
least_followed k l Cut next p q = tt

pub fields_least : (s ws : List ℕ) (r : Reading) → AtLeast (least_size ws r) (fields_of s ws r)
unfolding least_size fields_of
fields_least s [] r = omega arith
fields_least s (w ∷ ws) r =
    least_followed (least_field_size w r) (least_size ws r) (field_of s w r) (λ a. fields_of (drop a s) ws r)
    (least_field s w r) (λ a. fields_least (drop a s) ws r)

pub too_short : (s ws : List ℕ) (r : Reading) → length s < least_size ws r → fields_of s ws r ≡ Cut
too_short s ws r h = by_fields (fields_of s ws r) (fields_within s ws r) (fields_least s ws r)
  where
    by_fields : (x : Span) → Within (length s) x → AtLeast (least_size ws r) x → x ≡ Cut
    by_fields (Whole a n) p q = absurd (omega arith)
    by_fields Cut p q = refl
