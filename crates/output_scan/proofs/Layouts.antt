-- What the layout of a template says of its widths. Assumes nothing.
use mathlib.Core.Path.{◌≡◌, refl}
use mathlib.Core.Bool.{Bool, true, false, cond}
use mathlib.Core.List.{List, [], ◌∷◌}
use Prim.Native.Nat.{ℕ, ◌+◌, ◌<◌}
use native.Mathlib.Omega.{arith}
use Rattle.wire.specs.declared.Reading.TheVariants.{IpfixVariable}
use Rattle.wire.specs.Size.{is_variable, least_size}
use Rattle.output_fields.specs.declared.Layout.{Layout}
use Rattle.output_fields.specs.declared.Layout.TheVariants.{Fixed, One, Several}
use Rattle.output_fields.specs.Layout.{has_variable, behind_fixed, layout_of}
use Rattle.output_scan.proofs.Fixed.{Plain}

pub no_variable_plain : (ws : List ℕ) → has_variable ws ≡ false → Plain ws IpfixVariable
unfolding has_variable Plain
no_variable_plain [] e = tt
no_variable_plain (w ∷ ws) e = by_kind (is_variable w IpfixVariable) refl e (no_variable_plain ws)
  where
    by_kind : (b : Bool) → is_variable w IpfixVariable ≡ b → cond b true (has_variable ws) ≡ false →
        (has_variable ws ≡ false → Plain ws IpfixVariable) →
        (is_variable w IpfixVariable ≡ false) × Plain ws IpfixVariable
    by_kind true f g ih = cc
    by_kind false f g ih = (f, ih g)

pub fixed_plain : (ws : List ℕ) → layout_of ws ≡ Fixed → Plain ws IpfixVariable
unfolding layout_of Plain
fixed_plain [] e = tt
fixed_plain (w ∷ ws) e = by_kind (is_variable w IpfixVariable) refl e (fixed_plain ws)
  where
    not_one : (b : Bool) → cond b Several (One 0) ≡ Fixed → ⊥
    not_one true e = cc
    not_one false e = cc

    behind : (x : Layout) → behind_fixed w x ≡ Fixed → x ≡ Fixed
    behind Fixed e = refl
    behind (One lead) e = cc
    behind Several e = cc

    by_kind : (b : Bool) → is_variable w IpfixVariable ≡ b →
        cond b (cond (has_variable ws) Several (One 0)) (behind_fixed w (layout_of ws)) ≡ Fixed →
        (layout_of ws ≡ Fixed → Plain ws IpfixVariable) → (is_variable w IpfixVariable ≡ false) × Plain ws IpfixVariable
    by_kind true f g ih = absurd (not_one (has_variable ws) g)
    by_kind false f g ih = (f, ih (behind (layout_of ws) g))

-- the only variable-length field has its prefix's first byte at least
pub lead_below : (ws : List ℕ) {lead : ℕ} → layout_of ws ≡ One lead → lead < least_size ws IpfixVariable
unfolding layout_of least_size
lead_below [] e = cc
lead_below (w ∷ ws) {lead} e = by_kind (is_variable w IpfixVariable) e (λ l f. lead_below ws f)
  where
    by_others : (b : Bool) → cond b Several (One 0) ≡ One lead → lead < 1 + least_size ws IpfixVariable
    by_others true e = cc
    by_others false e = let z : 0 ≡ lead = cc in omega arith

    by_layout : (x : Layout) → layout_of ws ≡ x → behind_fixed w x ≡ One lead →
        ((l : ℕ) → layout_of ws ≡ One l → l < least_size ws IpfixVariable) → lead < w + least_size ws IpfixVariable
    by_layout Fixed f e ih = cc
    by_layout (One l) f e ih = let z : w + l ≡ lead = cc in let g = ih l f in omega arith
    by_layout Several f e ih = cc

    by_kind : (b : Bool) → cond b (cond (has_variable ws) Several (One 0)) (behind_fixed w (layout_of ws)) ≡ One lead →
        ((l : ℕ) → layout_of ws ≡ One l → l < least_size ws IpfixVariable) →
        lead < cond b 1 w + least_size ws IpfixVariable
    by_kind true e ih = by_others (has_variable ws) e
    by_kind false e ih = by_layout (layout_of ws) refl e ih
