-- The record of a template in which one field says its length itself: its size is the least size and what that field
-- takes beyond one byte. Assumes nothing.
use mathlib.Core.Path.{◌≡◌, refl, ap, ap₂, sym, ◌∙◌}
use mathlib.Core.Bool.{Bool, true, false, cond}
use mathlib.Core.List.{List, [], ◌∷◌}
use Prim.Native.Nat.{ℕ, ◌+◌, ◌*◌, ◌-◌, ◌≤◌, ◌<◌}
use native.Mathlib.Numerals.{add-one}
use native.Mathlib.Omega.{arith}
use lib.ListN.{length, get_or, take, drop, length-drop}
use lib.Seq.{drop-cons}
use borrow.Author.Tests.{eqb-true, eqb-false}
use Rattle.wire.specs.declared.Reading.TheVariants.{IpfixVariable}
use Rattle.wire.specs.Size.{is_variable, least_size}
use Rattle.output_fields.specs.declared.Layout.{Layout}
use Rattle.output_fields.specs.declared.Layout.TheVariants.{Fixed, One, Several}
use Rattle.output_fields.specs.Field.{Whole, Cut}
use Rattle.output_scan.specs.Scan.{record_of}
use Rattle.output_fields.specs.Layout.{has_variable, behind_fixed, layout_of}
use Rattle.output_scan.proofs.Fixed.{Plain}
use Rattle.output_fields.proofs.Tails.{tail_length}
use Rattle.output_scan.proofs.Records.{cut_field, RecordsPassed, no_record_passed, record_passed}
use Rattle.output_scan.proofs.Spare.{FieldsSpared, Prefixed, none_spared, fixed_spared, spare_length}
use Rattle.output_scan.proofs.Spare.{least_variable, prefix_cut, variable_cut, variable_spared, all_spared}
use Rattle.output_scan.proofs.Spare.{part_at, short_prefixed, long_prefixed, part_of_part}
use Rattle.output_scan.proofs.Layouts.{no_variable_plain, lead_below}

-- the next field of a list that is not at its end
module _ (ws : List ℕ) (i : ℕ) {vs : List ℕ} {w : ℕ} (e : drop i ws ≡ w ∷ vs) where
  not_last : i < length ws
  not_last = let d = length-drop i ws in let f : length (drop i ws) ≡ length (w ∷ vs) = ap length e in omega arith

  width_here : w ≡ get_or ws i 0
  width_here = let d = drop-cons ws i 0 not_last in cc

  widths_left : drop (i + 1) ws ≡ vs
  widths_left = let d = drop-cons ws i 0 not_last in rw add-one (cc)

-- The fields before the only variable-length field are passed: it stands at `at`, and the fields behind it are plain.
pub record Alone (bytes ws next : List ℕ) (at : ℕ) : Type 0 where
  pub field : ℕ
  pub inside : field < length ws
  pub variable : get_or ws field 0 ≡ 65535
  pub spared : FieldsSpared bytes ws next at 0 field
  pub plain : Plain (drop (field + 1) ws) IpfixVariable

-- the fields before it, one after the other: `vs` are the widths that are left
find_alone : {bytes ws next : List ℕ} (vs : List ℕ) {at lead i : ℕ} → drop i ws ≡ vs →
    FieldsSpared bytes ws next at 0 i → layout_of vs ≡ One lead → Alone bytes ws next (at + lead)
unfolding layout_of
find_alone [] e inv f = cc
find_alone {bytes} {ws} {next} (w ∷ vs) {at} {lead} {i} e inv f = by_kind (is_variable w IpfixVariable) refl f
    (λ l g. find_alone vs (widths_left ws i e) g)
  where
    by_kind : (b : Bool) → is_variable w IpfixVariable ≡ b →
        cond b (cond (has_variable vs) Several (One 0)) (behind_fixed w (layout_of vs)) ≡ One lead →
        ((l : ℕ) → FieldsSpared bytes ws next (at + w) 0 (i + 1) → layout_of vs ≡ One l →
        Alone bytes ws next (at + w + l)) →
        Alone bytes ws next (at + lead)
    by_kind true k g ih = by_others (has_variable vs) refl g
      where
        by_others : (b : Bool) → has_variable vs ≡ b → cond b Several (One 0) ≡ One lead →
            Alone bytes ws next (at + lead)
        by_others true o u = cc
        by_others false o u =
            let z : 0 ≡ lead = cc in
            let t : at + lead ≡ at = omega arith in
            rw t
            (record {
              field = i;
              inside = not_last ws i e;
              variable = sym (width_here ws i e) ∙ eqb-true w 65535 k;
              spared = inv;
              plain = rw (widths_left ws i e) (no_variable_plain vs o);
            })
    by_kind false k g ih = by_layout (layout_of vs) refl g
      where
        by_layout : (x : Layout) → layout_of vs ≡ x → behind_fixed w x ≡ One lead → Alone bytes ws next (at + lead)
        by_layout Fixed o u = cc
        by_layout Several o u = cc
        by_layout (One l) o u =
            let z : w + l ≡ lead = cc in
            let t : at + lead ≡ at + w + l = omega arith in
            rw t (ih l (fixed_spared inv (not_last ws i e) (width_here ws i e) (eqb-false w 65535 k)) o)

-- the fields behind it
pass_plain : {bytes ws next : List ℕ} (vs : List ℕ) {at prefixes i : ℕ} → drop i ws ≡ vs →
    FieldsSpared bytes ws next at prefixes i → Plain vs IpfixVariable →
    FieldsSpared bytes ws next (at + least_size vs IpfixVariable) prefixes (i + length vs)
unfolding Plain least_size
pass_plain [] {at} {prefixes} {i} e inv p =
    let t : at + 0 ≡ at = omega arith in
    let u : i + 0 ≡ i = omega arith in
    rw (t, u) inv
pass_plain {ws = ws} (w ∷ vs) {at} {prefixes} {i} e inv p =
    let g = pass_plain vs (widths_left ws i e)
    (fixed_spared inv (not_last ws i e) (width_here ws i e) (eqb-false w 65535 p.0)) p.1 in
    let t : at + (w + least_size vs IpfixVariable) ≡ at + w + least_size vs IpfixVariable = omega arith in
    let u : i + length (w ∷ vs) ≡ i + 1 + length vs = omega arith in
    rw (p.0, t, u) g

-- The only variable-length field stands behind `lead` bytes, in a record of the least size at least.
module _ (ws : List ℕ) {lead least : ℕ} (one : layout_of ws ≡ One lead) (e : least ≡ least_size ws IpfixVariable)
    (bytes : List ℕ) (h : least ≤ length bytes) where
  alone : Alone bytes ws (take (length bytes - least) (drop least bytes)) lead
  alone =
      let t : 0 + lead ≡ lead = omega arith in
      rw t at (find_alone {bytes = bytes} ws {i = 0} refl (none_spared e h) one)

  -- what is left of the least size at the field, and behind it
  least_parts : (least ≡ lead + (1 + least_size (drop (alone.field + 1) ws) IpfixVariable))
  least_parts =
      let s = alone.spared in
      let m = s.room in
      let l = spare_length s in
      let k = least_variable s alone.inside alone.variable in
      let d = tail_length least bytes in
      omega arith

  pub prefix_missing : {b : ℕ} → b ≡ get_or (part_at lead bytes) 0 0 → b ≡ 255 → length bytes - least < 2 →
      record_of bytes ws IpfixVariable ≡ Cut
  prefix_missing f g l =
      let d = tail_length least bytes in
      cut_field bytes ws IpfixVariable
      (prefix_cut alone.spared alone.inside alone.variable f (omega arith) (omega arith) (omega arith))

  module _ {p n : ℕ} (f : Prefixed bytes lead p n) where
    content_cut : length bytes < least + (p - 1) + n → record_of bytes ws IpfixVariable ≡ Cut
    content_cut l =
        let d = tail_length least bytes in
        cut_field bytes ws IpfixVariable
        (variable_cut alone.spared alone.inside alone.variable f (omega arith))

    record_alone : least + (p - 1) + n ≤ length bytes →
        record_of bytes ws IpfixVariable ≡ Whole (least + (p - 1) + n) (least + n - 1)
    record_alone l =
        let d = tail_length least bytes in
        let q = f.some in
        let o = least_parts in
        let z = length-drop (alone.field + 1) ws in
        let u = variable_spared alone.spared alone.inside alone.variable f (omega arith) refl in
        let v = pass_plain (drop (alone.field + 1) ws) refl u alone.plain in
        all_spared v (omega arith) (omega arith)
        ∙ ap₂ Whole (omega arith) (omega arith)

-- What the code knows of the field: its content, and the least size with what a long prefix adds to it.
pub record Stepped (bytes : List ℕ) (lead least step content : ℕ) : Type 0 where
  pub prefix : ℕ
  pub prefixed : Prefixed bytes lead prefix content
  pub step_is : step ≡ least + (prefix - 1)
  pub ends : step ≤ length bytes

pub short_step : (bytes : List ℕ) (lead least : ℕ) {b step content : ℕ} → lead < least → least ≤ length bytes →
    b ≡ get_or (part_at lead bytes) 0 0 → b ≤ 255 → (b ≡ 255 → ⊥) → content ≡ b → step ≡ least →
    Stepped bytes lead least step content
short_step bytes lead least i h e m k f g =
    record {
      prefix = 1;
      prefixed = rw f (short_prefixed bytes lead (omega arith) e m k);
      step_is = omega arith;
      ends = omega arith;
    }

pub long_step : (bytes : List ℕ) (lead least : ℕ) {b n step content : ℕ} → lead < least → 2 ≤ length bytes - least →
    b ≡ get_or (part_at lead bytes) 0 0 → b ≡ 255 →
    n ≡ get_or (part_at lead bytes) 1 0 * 256 + get_or (part_at lead bytes) 2 0 → content ≡ n →
    step ≡ least + 2 → Stepped bytes lead least step content
long_step bytes lead least i h e k f g o =
    record {
      prefix = 3;
      prefixed = rw g (long_prefixed bytes lead (omega arith) e k (omega arith) f);
      step_is = omega arith;
      ends = omega arith;
    }

-- The loop over the records: `k` records passed, whose prefixes have `long` bytes more than one each, and `rest` left.
pub record AlonePassed (body ws : List ℕ) (limit : ℕ) (rest : List ℕ) (k long : ℕ) : Type 0 where
  -- what is no prefix is payload
  pub passed : RecordsPassed body ws IpfixVariable limit rest k (length body - length rest - k - long)
  pub inside : length rest + k + long ≤ length body

pub none_alone : (body ws : List ℕ) (limit : ℕ) → AlonePassed body ws limit body 0 0
none_alone body ws limit =
    let z : length body - length body - 0 - 0 ≡ 0 = omega arith in
    record { passed = rw z (no_record_passed body ws IpfixVariable limit); inside = omega arith }

-- the payload of one record more: `a` bytes of body, of which `b` are left before it and `b'` behind it
difference : (a b k long x : ℕ) → a ≡ x + b + k + long → a - b - k - long ≡ x
difference a b k long x e = omega arith

payload_more : (a b k long x least n d b' g : ℕ) → a ≡ x + b + k + long → b ≡ b' + least + d + n →
    least + n ≡ g + 1 → a - b - k - long + g ≡ a - b' - (k + 1) - (long + d)
payload_more a b k long x least n d b' g h e f =
    rw (difference a b k long x h) (sym (difference a b' (k + 1) (long + d) (x + g) (omega arith)))

inside_more : (a b k long least n d b' : ℕ) → b + k + long ≤ a → b ≡ b' + least + d + n → 1 ≤ least →
    b' + (k + 1) + (long + d) ≤ a
inside_more a b k long least n d b' h e l = omega arith

-- the bytes left, with those that the record took
taken : (b b' least step n q : ℕ) → b' ≡ b - (step + n) → step ≤ b → n ≤ b - step → step ≡ least + q →
    b ≡ b' + least + (step - least) + n
taken b b' least step n q e h l f = let g : step - least ≡ q = omega arith in rw g (omega arith)

module _ (body ws : List ℕ) {limit : ℕ} (rest : List ℕ) {k long lead least : ℕ}
    (inv : AlonePassed body ws limit rest k long) (one : layout_of ws ≡ One lead)
    (e : least ≡ least_size ws IpfixVariable) (h : least ≤ length rest) {step content : ℕ}
    (s : Stepped rest lead least step content) where
  pub alone_passed : k < limit → content ≤ length rest - step →
      AlonePassed body ws limit
      (take (length (take (length rest - step) (drop step rest)) - content)
      (drop content (take (length rest - step) (drop step rest))))
      (k + 1) (long + (step - least))
  alone_passed l m =
      let q = s.prefixed.some in
      let t = s.step_is in
      let u = s.ends in
      let o = inv.inside in
      let b = lead_below ws one in
      let i : lead < least = omega arith in
      let z : step + content ≡ least + (s.prefix - 1) + content = omega arith in
      let d = length-drop (step + content) rest in
      let w = record_passed inv.passed l (record_alone ws one e rest h s.prefixed (omega arith))
      (ap (λ (n : ℕ). drop n rest) z) in
      let y = taken (length rest) (length (drop (step + content) rest)) least step content (s.prefix - 1) d u m t in
      let v = payload_more (length body) (length rest) k long (length body - length rest - k - long) least content
      (step - least) (length (drop (step + content) rest)) (least + content - 1) (whole_body o) y
      (one_less i) in
      rw (part_of_part step content rest)
      (record {
        passed = rw v at w;
        inside = inside_more (length body) (length rest) k long least content (step - least)
            (length (drop (step + content) rest)) o y (some_least i);
      })
    where
      whole_body : length rest + k + long ≤ length body →
          length body ≡ length body - length rest - k - long + length rest + k + long
      whole_body o = omega arith

      one_less : lead < least → least + content ≡ least + content - 1 + 1
      one_less i = omega arith

      some_least : lead < least → 1 ≤ least
      some_least i = omega arith

  pub content_missing : length rest - step < content → record_of rest ws IpfixVariable ≡ Cut
  content_missing m =
      let t = s.step_is in
      let u = s.ends in
      content_cut ws one e rest h s.prefixed (omega arith)
