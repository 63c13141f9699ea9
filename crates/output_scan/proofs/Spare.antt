-- The loop over the fields of a record whose least size was set aside first: what is left behind it shrinks only by
-- what a variable-length field takes beyond its least size, one byte. Assumes nothing.
use mathlib.Core.Path.{◌≡◌, refl, ap, sym, ◌∙◌}
use mathlib.Core.Bool.{Bool, true, false}
use mathlib.Core.List.{List}
use Prim.Native.Nat.{ℕ, ◌+◌, ◌*◌, ◌-◌, ◌≤◌, ◌<◌}
use native.Mathlib.Numerals.{add-one}
use native.Mathlib.Nat.{add-zero}
use native.Mathlib.Omega.{arith}
use lib.ListN.{length, get_or, take, drop, length-drop, drop_of_length-le}
use lib.Seq.{drop-cons, drop-drop}
use lib.Dec.{leb, ltb}
use borrow.Author.Tests.{eq-eqb, ne_eqb, le-leb, ltb-true, ltb-false}
use Rattle.wire.specs.declared.Reading.TheVariants.{IpfixVariable}
use Rattle.wire.specs.Size.{least_field_size, least_size}
use Rattle.output_fields.specs.Field.{Whole, Cut, span_of, variable_field, field_of}
use Rattle.output_scan.specs.Scan.{fields_of, record_of}
use Rattle.output_scan.proofs.Fields.{short_prefix, cut_prefix, long_prefix, FieldsPassed}
use Rattle.output_scan.proofs.Fields.{no_field_passed, field_passed, field_cut, all_passed}
use Rattle.std.proofs.lemmas.List.{take_rest}
use Rattle.output_fields.proofs.Tails.{tail_length}
use Rattle.output_scan.proofs.Least.{fields_least, too_short}
use Rattle.output_scan.proofs.Records.{takes_some}

-- A field that says its length itself stands at a place: n bytes of content behind a prefix of p bytes.
pub record Prefixed (bytes : List ℕ) (at p n : ℕ) : Type 0 where
  -- it has at least one byte
  pub some : 1 ≤ p
  -- the field is that prefix and that content, if they end within the bytes
  pub field : variable_field (drop at bytes) ≡ span_of p n (length (drop at bytes))

-- the part of a record from a place on, as the code lends it
abbrev pub part_at : ℕ → List ℕ → List ℕ
part_at at bytes = take (length bytes - at) (drop at bytes)

-- Prefixes by their first byte.
module _ (bytes : List ℕ) (at : ℕ) {b : ℕ} (h : at < length bytes) (e : b ≡ get_or (part_at at bytes) 0 0) where
  first_byte : get_or (drop at bytes) 0 0 ≡ b
  first_byte = ap (λ (l : List ℕ). get_or l 0 0) (sym (take_rest bytes at)) ∙ sym e

  pub short_prefixed : b ≤ 255 → (b ≡ 255 → ⊥) → Prefixed bytes at 1 b
  short_prefixed l k =
      let d = length-drop at bytes in
      let f = first_byte in
      record {
        some = omega arith;
        field = short_prefix (drop at bytes) (omega arith) (omega arith)
            ∙ ap (λ (n : ℕ). span_of 1 n (length (drop at bytes))) f;
      }

  pub long_prefixed : {n : ℕ} → b ≡ 255 → at + 2 < length bytes →
      n ≡ get_or (part_at at bytes) 1 0 * 256 + get_or (part_at at bytes) 2 0 → Prefixed bytes at 3 n
  long_prefixed {n} k l g =
      let d = length-drop at bytes in
      let f = first_byte in
      record {
        some = omega arith;
        field = long_prefix (drop at bytes) (omega arith) (omega arith) (omega arith)
            ∙ ap (λ (m : ℕ). span_of 3 m (length (drop at bytes))) (rw take_rest at (sym g));
      }

  pub prefix_missing : b ≡ 255 → length bytes ≤ at + 2 → variable_field (drop at bytes) ≡ Cut
  prefix_missing k l =
      let d = length-drop at bytes in
      let f = first_byte in
      sym (cut_prefix (drop at bytes) (omega arith) (omega arith) (omega arith))

-- the rest of a rest, as the code lends it
pub part_of_part : (a n : ℕ) (xs : List ℕ) →
    take (length (take (length xs - a) (drop a xs)) - n) (drop n (take (length xs - a) (drop a xs))) ≡ drop (a + n) xs
part_of_part a n xs =
    take_rest (take (length xs - a) (drop a xs)) n ∙ ap (drop n) (take_rest xs a) ∙ drop-drop n a xs

-- The fields passed, and the bytes that the record leaves if the fields that are left take no more than the least.
pub record FieldsSpared (bytes ws next : List ℕ) (at prefixes i : ℕ) : Type 0 where
  -- what is no prefix is content
  pub passed : FieldsPassed bytes ws IpfixVariable at (at - prefixes) i
  pub few : prefixes ≤ at
  -- the least size of what is left lies within the bytes
  pub room : at + least_size (drop i ws) IpfixVariable ≤ length bytes
  -- and `next` starts behind it
  pub spare : next ≡ drop (at + least_size (drop i ws) IpfixVariable) bytes

pub none_spared : {bytes ws : List ℕ} {least : ℕ} → least ≡ least_size ws IpfixVariable → least ≤ length bytes →
    FieldsSpared bytes ws (take (length bytes - least) (drop least bytes)) 0 0 0
none_spared {bytes} {ws} {least} e h =
    let f : least ≡ 0 + least_size ws IpfixVariable = omega arith in
    record {
      passed = no_field_passed bytes ws IpfixVariable;
      few = omega arith;
      room = omega arith;
      spare = take_rest bytes least ∙ ap (λ (n : ℕ). drop n bytes) f;
    }

module _ {bytes ws next : List ℕ} {at prefixes i : ℕ} (inv : FieldsSpared bytes ws next at prefixes i) where
  pub spare_length : length next ≡ length bytes - (at + least_size (drop i ws) IpfixVariable)
  spare_length = ap length inv.spare ∙ length-drop (at + least_size (drop i ws) IpfixVariable) bytes

  module _ (h : i < length ws) where
    least_next : least_size (drop i ws) IpfixVariable
        ≡ least_field_size (get_or ws i 0) IpfixVariable + least_size (drop (i + 1) ws) IpfixVariable
    unfolding least_size
    least_next = rw (add-one, drop-cons ws i 0)

    least_fixed : (get_or ws i 0 ≡ 65535 → ⊥) → least_size (drop i ws) IpfixVariable
        ≡ get_or ws i 0 + least_size (drop (i + 1) ws) IpfixVariable
    least_fixed k = rw (ne_eqb (get_or ws i 0) 65535 k) at least_next

    pub least_variable : get_or ws i 0 ≡ 65535 → least_size (drop i ws) IpfixVariable
        ≡ 1 + least_size (drop (i + 1) ws) IpfixVariable
    least_variable k = rw (eq-eqb (get_or ws i 0) 65535 k) at least_next

    -- a variable-length field has its prefix's first byte at least
    pub starts_inside : get_or ws i 0 ≡ 65535 → at < length bytes
    starts_inside k = let e = least_variable k in let m = inv.room in omega arith

    pub some_inside : get_or ws i 0 ≡ 65535 → 0 < length (part_at at bytes)
    some_inside k = let e = starts_inside k in let d = tail_length at bytes in omega arith

    fixed_field : (get_or ws i 0 ≡ 65535 → ⊥) → field_of (drop at bytes) (get_or ws i 0) IpfixVariable
        ≡ Whole (0 + get_or ws i 0) (get_or ws i 0)
    unfolding field_of
    fixed_field k =
        let e = least_fixed k in
        let m = inv.room in
        let d = length-drop at bytes in
        rw (ne_eqb (get_or ws i 0) 65535 k, le-leb (0 + get_or ws i 0) (length (drop at bytes)) (omega arith))

    pub fixed_spared : {w : ℕ} → w ≡ get_or ws i 0 → (w ≡ 65535 → ⊥) →
        FieldsSpared bytes ws next (at + w) prefixes (i + 1)
    fixed_spared {w} f k =
        let plain : get_or ws i 0 ≡ 65535 → ⊥ = λ e. k (f ∙ e) in
        let e = least_fixed plain in
        let m = inv.room in
        let l = inv.few in
        let g : at + get_or ws i 0 - prefixes ≡ at - prefixes + get_or ws i 0 = omega arith in
        let z : at + (0 + get_or ws i 0) ≡ at + get_or ws i 0 = omega arith in
        let t : at + least_size (drop i ws) IpfixVariable
        ≡ at + get_or ws i 0 + least_size (drop (i + 1) ws) IpfixVariable = omega arith in
        rw f
        (record {
          passed = rw (g, ← z) (field_passed inv.passed h (fixed_field plain));
          few = omega arith;
          room = omega arith;
          spare = inv.spare ∙ ap (λ (n : ℕ). drop n bytes) t;
        })

    -- A variable-length field: whole where what it takes beyond its least size is spare, else the record is cut.
    module _ (k : get_or ws i 0 ≡ 65535) {p n : ℕ} (f : Prefixed bytes at p n) where
      by_prefix : field_of (drop at bytes) (get_or ws i 0) IpfixVariable ≡ span_of p n (length (drop at bytes))
      unfolding field_of
      by_prefix = rw (eq-eqb (get_or ws i 0) 65535 k) f.field

      whole_field : p + n ≤ length (drop at bytes) →
          field_of (drop at bytes) (get_or ws i 0) IpfixVariable ≡ Whole (p + n) n
      whole_field l = by_prefix ∙ rw (le-leb (p + n) (length (drop at bytes)) l)

      pub variable_spared : {next' : List ℕ} → p - 1 + n ≤ length next → next' ≡ drop (p - 1 + n) next →
          FieldsSpared bytes ws next' (at + (p + n)) (prefixes + p) (i + 1)
      variable_spared l g =
          let e = least_variable k in
          let m = inv.room in
          let o = inv.few in
          let q = f.some in
          let t = spare_length in
          let d = length-drop at bytes in
          let u : at + (p + n) - (prefixes + p) ≡ at - prefixes + n = omega arith in
          let v : at + least_size (drop i ws) IpfixVariable + (p - 1 + n)
          ≡ at + (p + n) + least_size (drop (i + 1) ws) IpfixVariable = omega arith in
          record {
            passed = rw u (field_passed inv.passed h (whole_field (omega arith)));
            few = omega arith;
            room = omega arith;
            spare = g
                ∙ ap (drop (p - 1 + n)) inv.spare
                ∙ drop-drop (p - 1 + n) (at + least_size (drop i ws) IpfixVariable) bytes
                ∙ ap (λ (a : ℕ). drop a bytes) v;
          }

      pub variable_cut : length next < p - 1 + n → fields_of bytes ws IpfixVariable ≡ Cut
      variable_cut l = by_test (leb (p + n) (length (drop at bytes))) refl
        where
          all_cut : {c : ℕ} → FieldsPassed bytes ws IpfixVariable (at + (p + n)) c (i + 1) →
              fields_of bytes ws IpfixVariable ≡ Cut
          all_cut v =
              let e = least_variable k in
              let m = inv.room in
              let q = f.some in
              let t = spare_length in
              let d = length-drop (at + (p + n)) bytes in
              v.left ∙ rw (too_short (drop (at + (p + n)) bytes) (drop (i + 1) ws) IpfixVariable (omega arith))

          by_test : (b : Bool) → leb (p + n) (length (drop at bytes)) ≡ b → fields_of bytes ws IpfixVariable ≡ Cut
          by_test true w = all_cut (field_passed inv.passed {s = p + n} {n = n} h (by_prefix ∙ rw w))
          by_test false w = field_cut inv.passed h (by_prefix ∙ rw w)

    -- As the code has them: a prefix of one byte, and one of three.
    module _ {b : ℕ} (k : get_or ws i 0 ≡ 65535) (e : b ≡ get_or (part_at at bytes) 0 0) where
      short_here : b < 255 → Prefixed bytes at 1 b
      short_here l = short_prefixed bytes at (starts_inside k) e (omega arith) (λ z. omega arith)

      pub short_spared : b < 255 → b ≤ length next →
          FieldsSpared bytes ws (take (length next - b) (drop b next)) (at + (1 + b)) (prefixes + 1) (i + 1)
      short_spared l m =
          let z : b ≡ 1 - 1 + b = omega arith in
          variable_spared k (short_here l) (omega arith) (take_rest next b ∙ ap (λ (n : ℕ). drop n next) z)

      pub short_cut : b < 255 → length next < b → fields_of bytes ws IpfixVariable ≡ Cut
      short_cut l m = variable_cut k (short_here l) (omega arith)

      -- a long prefix takes two bytes more than the least
      module _ (l : 255 ≤ b) (m : b ≤ 255) where
        full : b ≡ 255
        full = omega arith

        two_more : 2 ≤ length next → at + 2 < length bytes
        two_more n =
            let f = least_variable k in
            let g = inv.room in
            let o = spare_length in
            omega arith

        pub long_inside : 2 ≤ length next → 2 < length (part_at at bytes)
        long_inside n = let f = two_more n in let d = tail_length at bytes in omega arith

        pub prefix_cut : length next < 2 → fields_of bytes ws IpfixVariable ≡ Cut
        unfolding field_of
        prefix_cut n = by_test (ltb (at + 2) (length bytes)) refl
          where
            missing : variable_field (drop at bytes) ≡ Cut → field_of (drop at bytes) (get_or ws i 0) IpfixVariable ≡
                Cut
            missing o = rw (eq-eqb (get_or ws i 0) 65535 k) o

            by_test : (t : Bool) → ltb (at + 2) (length bytes) ≡ t → fields_of bytes ws IpfixVariable ≡ Cut
            by_test true t =
                variable_cut k
                (long_prefixed bytes at (starts_inside k) e full (ltb-true (at + 2) (length bytes) t) refl)
                (omega arith)
            by_test false t = field_cut inv.passed h
                (missing (prefix_missing bytes at (starts_inside k) e full (ltb-false (at + 2) (length bytes) t)))

        module _ {n : ℕ} (room : 2 ≤ length next)
            (f : n ≡ get_or (part_at at bytes) 1 0 * 256 + get_or (part_at at bytes) 2 0) where
          long_here : Prefixed bytes at 3 n
          long_here = long_prefixed bytes at (starts_inside k) e full (two_more room) f

          pub long_spared : n ≤ length (take (length next - 2) (drop 2 next)) →
              FieldsSpared bytes ws
              (take (length (take (length next - 2) (drop 2 next)) - n) (drop n (take (length next - 2) (drop 2 next))))
              (at + (3 + n)) (prefixes + 3) (i + 1)
          long_spared o =
              let d = tail_length 2 next in
              variable_spared k long_here (omega arith) (part_of_part 2 n next)

          pub long_cut : length (take (length next - 2) (drop 2 next)) < n → fields_of bytes ws IpfixVariable ≡ Cut
          long_cut o =
              let d = tail_length 2 next in
              variable_cut k long_here (omega arith)

  pub all_spared : length ws ≤ i → 0 < least_size ws IpfixVariable →
      record_of bytes ws IpfixVariable ≡ Whole at (at - prefixes)
  all_spared l m =
      let e = all_passed inv.passed l in
      let f = rw e at (fields_least bytes ws IpfixVariable) in
      takes_some bytes ws IpfixVariable e (λ z. omega arith)

  pub rest_spared : length ws ≤ i → next ≡ drop at bytes
  unfolding least_size
  rest_spared l = inv.spare ∙ rw (drop_of_length-le ws l, add-zero)
