-- What may follow the last whole record of a body (document 01, "Framing and cost"; RFC 3954, RFC 7011).
use Rattle.std.specs.Prelude.{Bool, false, cond, ℕ, leb, ltb}
use Rattle.wire.specs.declared.Reading.{Reading}
use Rattle.wire.specs.declared.Reading.TheVariants.{V9Fixed, IpfixFixed, IpfixVariable}

-- shorter than the least size
abbrev pub short_padding : ℕ → ℕ → Bool
short_padding remainder least = ltb remainder least

-- NetFlow v9: also at most 3 bytes
abbrev pub v9_padding : ℕ → ℕ → Bool
v9_padding remainder least = cond (leb remainder 3) (short_padding remainder least) false

-- padding: a remainder shorter than the least size; for NetFlow v9 also at most 3 bytes. Its bytes may have any value
abbrev pub is_padding : ℕ → ℕ → Reading → Bool
is_padding remainder least V9Fixed = v9_padding remainder least
is_padding remainder least IpfixFixed = short_padding remainder least
is_padding remainder least IpfixVariable = short_padding remainder least

-- at least one record, and a remainder that is padding
unfoldable pub is_complete : ℕ → ℕ → ℕ → Reading → Bool
is_complete records remainder least r = cond (ltb 0 records) (is_padding remainder least r) false
