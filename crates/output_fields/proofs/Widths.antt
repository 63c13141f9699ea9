-- Which fields say their length themselves: the loops over the widths. Assumes nothing.
use mathlib.Core.Path.{◌≡◌, refl, ap, sym, ◌∙◌}
use mathlib.Core.Bool.{Bool, true, false, cond, ◌||◌}
use mathlib.Core.List.{List, [], ◌∷◌}
use Prim.Native.Nat.{ℕ, ◌+◌, ◌-◌, ◌^◌, ◌≤◌, ◌<◌}
use native.Mathlib.Numerals.{add-one}
use native.Mathlib.Omega.{arith}
use lib.ListN.{length, get_or, take, drop, drop_of_length-le}
use lib.Seq.{drop-cons}
use lib.Dec.{eqb}
use Rattle.std.specs.List.{list_any}
use borrow.Author.Tests.{eq-eqb, ne_eqb}
use Rattle.wire.specs.declared.Reading.TheVariants.{IpfixVariable}
use Rattle.wire.specs.Size.{least_size}
use Rattle.output_fields.specs.declared.Layout.{Layout}
use Rattle.output_fields.specs.declared.Layout.TheVariants.{Fixed, One, Several}
use Rattle.output_fields.specs.Layout.{has_variable, behind_fixed, layout_of}
use Rattle.std.proofs.lemmas.List.{take_rest}

either_cond : (a b : Bool) → (a || b) ≡ cond a true b
either_cond true b = refl
either_cond false b = refl

-- a field says its length itself where a width is 65,535
pub any_variable : (ws : List ℕ) → list_any (λ w. eqb w 65535) ws ≡ has_variable ws
unfolding has_variable
any_variable [] = refl
any_variable (w ∷ ws) = rw (any_variable ws) (either_cond (eqb w 65535) (has_variable ws))

-- The loop over the widths before the first variable-length field: i fields passed, of `lead` bytes.
pub record LeadPassed (ws : List ℕ) (lead i : ℕ) : Type 0 where
  -- they and the least size of the fields that are left are the template's
  pub whole : lead + least_size (drop i ws) IpfixVariable ≡ least_size ws IpfixVariable
  -- the layout is that of the fields that are left, behind these bytes
  pub left : layout_of ws ≡ behind_fixed lead (layout_of (drop i ws))

behind_nothing : (x : Layout) → x ≡ behind_fixed 0 x
behind_nothing Fixed = refl
behind_nothing (One lead) = ap One (omega arith)
behind_nothing Several = refl

behind_both : (a b : ℕ) (x : Layout) → behind_fixed a (behind_fixed b x) ≡ behind_fixed (a + b) x
behind_both a b Fixed = refl
behind_both a b (One lead) = ap One (omega arith)
behind_both a b Several = refl

pub no_lead : (ws : List ℕ) → LeadPassed ws 0 0
no_lead ws = record { whole = omega arith; left = behind_nothing (layout_of ws) }

module _ {ws : List ℕ} {lead i : ℕ} (inv : LeadPassed ws lead i) (h : i < length ws) where
  -- the least size of the fields that are left, behind a plain one
  least_left : (get_or ws i 0 ≡ 65535 → ⊥) →
      least_size (drop i ws) IpfixVariable ≡ get_or ws i 0 + least_size (drop (i + 1) ws) IpfixVariable
  unfolding least_size
  least_left k = rw (add-one, drop-cons ws i 0, ne_eqb (get_or ws i 0) 65535 k)

  -- and they lie within it
  pub lead_within : least_size ws IpfixVariable < 2 ^ 64 → (get_or ws i 0 ≡ 65535 → ⊥) →
      lead + get_or ws i 0 < 2 ^ 64
  lead_within l k = let e = inv.whole in let f = least_left k in omega arith

  pub lead_passed : (get_or ws i 0 ≡ 65535 → ⊥) → LeadPassed ws (lead + get_or ws i 0) (i + 1)
  unfolding layout_of
  lead_passed k =
      let e = inv.whole in
      let f = least_left k in
      record {
        whole = omega arith;
        left = inv.left ∙ rw (add-one, drop-cons ws i 0, ne_eqb (get_or ws i 0) 65535 k, behind_both);
      }

  -- a variable-length field; `b` says whether another stands in the rest of the widths
  module _ {w : ℕ} {b : Bool} (e : w ≡ get_or ws i 0) (k : w ≡ 65535)
      (f : b ≡ has_variable (take (length ws - (i + 1)) (drop (i + 1) ws))) where
    layout_here : layout_of ws ≡ behind_fixed lead (cond b Several (One 0))
    unfolding layout_of
    layout_here =
        inv.left
        ∙ rw (f, take_rest ws (i + 1), add-one, drop-cons ws i 0, eq-eqb (get_or ws i 0) 65535 (sym e ∙ k))

    pub several_found : b ≡ true → Several ≡ layout_of ws
    several_found g = sym (layout_here ∙ rw g)

    pub one_alone : b ≡ false → One lead ≡ layout_of ws
    one_alone g = sym (layout_here ∙ rw g (ap One (omega arith)))

pub all_fixed : {ws : List ℕ} {lead i : ℕ} → LeadPassed ws lead i → length ws ≤ i → Fixed ≡ layout_of ws
unfolding layout_of
all_fixed {ws} inv h = sym (inv.left ∙ rw (drop_of_length-le ws h))

pub ruleset layouts = (no_lead, lead_within, lead_passed, several_found, one_alone, all_fixed)
