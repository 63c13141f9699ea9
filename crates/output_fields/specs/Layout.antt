-- Which fields of a template say their length themselves, in the variable reading (RFC 7011, section 7).
use Rattle.std.specs.Prelude.{Bool, true, false, cond, List, [], ◌∷◌, ℕ, ◌+◌}
use Rattle.wire.specs.declared.Reading.TheVariants.{IpfixVariable}
use Rattle.wire.specs.Size.{is_variable}
use Rattle.output_fields.specs.declared.Layout.{Layout}
use Rattle.output_fields.specs.declared.Layout.TheVariants.{Fixed, One, Several}

-- at least one does
unfoldable pub has_variable : List ℕ → Bool
has_variable [] = false
has_variable (w ∷ ws) = cond (is_variable w IpfixVariable) true (has_variable ws)

-- a layout behind so many bytes of other fields
abbrev pub behind_fixed : ℕ → Layout → Layout
behind_fixed n Fixed = Fixed
behind_fixed n (One lead) = One (n + lead)
behind_fixed n Several = Several

-- none does; one, behind so many bytes; or several
unfoldable pub layout_of : List ℕ → Layout
layout_of [] = Fixed
layout_of (w ∷ ws) =
    cond (is_variable w IpfixVariable) (cond (has_variable ws) Several (One 0)) (behind_fixed w (layout_of ws))
