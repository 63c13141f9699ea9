-- The least size of a record (document 01, "Framing and cost"; RFC 7011 section 7).
use Rattle.std.specs.Prelude.{Bool, false, cond, List, [], ◌∷◌, ℕ, ◌+◌, eqb}
use Rattle.wire.specs.declared.Reading.{Reading}
use Rattle.wire.specs.declared.Reading.TheVariants.{V9Fixed, IpfixFixed, IpfixVariable}

-- which fields say their length themselves: those of width 65,535, in the variable reading only
abbrev pub is_variable : ℕ → Reading → Bool
is_variable w V9Fixed = false
is_variable w IpfixFixed = false
is_variable w IpfixVariable = eqb w 65535

-- a field's least size: 1 where it says its length itself, else its width
abbrev pub least_field_size : ℕ → Reading → ℕ
least_field_size w r = cond (is_variable w r) 1 w

-- document 01's "least size" of a record: the sum over its fields
unfoldable pub least_size : List ℕ → Reading → ℕ
least_size [] r = 0
least_size (w ∷ ws) r = least_field_size w r + least_size ws r
