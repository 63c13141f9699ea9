-- A field at the front of the bytes (RFC 7011, section 7).
use Rattle.std.specs.Prelude.{cond, List, ℕ, ◌+◌, ◌*◌, length, get_or, ltb, leb}
use Rattle.wire.specs.declared.Reading.{Reading}
use Rattle.wire.specs.Size.{is_variable}

-- what a field takes of the bytes before it: its size with the length prefix, and its content without; or it is cut
pub data Span : Type 0 where
  Whole : ℕ → ℕ → Span
  Cut : Span

-- n bytes of content behind a prefix, at the front of so many bytes; cut where it runs past their end
abbrev pub span_of : ℕ → ℕ → ℕ → Span
span_of prefix n available = cond (leb (prefix + n) available) (Whole (prefix + n) n) Cut

-- a first byte below 255 is the length; 255 means that a two-byte big-endian length follows, however short
unfoldable pub variable_field : List ℕ → Span
variable_field s =
    cond (ltb 0 (length s))
    (cond (ltb (get_or s 0 0) 255)
    (span_of 1 (get_or s 0 0) (length s))
    (cond (ltb 2 (length s)) (span_of 3 (get_or s 1 0 * 256 + get_or s 2 0) (length s)) Cut))
    Cut

-- a field of width w
unfoldable pub field_of : List ℕ → ℕ → Reading → Span
field_of s w r = cond (is_variable w r) (variable_field s) (span_of 0 w (length s))
