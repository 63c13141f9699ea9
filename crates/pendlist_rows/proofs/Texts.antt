-- Text put piece by piece, and a number's digits. Assumes nothing.
use mathlib.Core.Path.{◌≡◌, refl, sym, ap, subst, ◌∙◌}
use mathlib.Core.Bool.{Bool, true, false, cond}
use mathlib.Core.List.{List, [], ◌∷◌, ◌++◌, append_assoc, append-nil}
use Prim.Native.Nat.{ℕ, zero, suc, ◌+◌, ◌*◌, ◌-◌, ◌/◌, ◌%◌, ◌^◌, ◌≤◌, ◌<◌}
use native.Mathlib.Nat.{add-zero, pow-suc, one-le-pow}
use native.Mathlib.Numerals.{add-one, unary_clauses}
use native.Mathlib.Omega.{arith}
use lib.ListN.{length, get_or, take, drop, set, length-set}
use lib.Seq.{length-take-le, take-add, take-suc, take-suc-set, drop_at, take-length}
use lib.Dec.{ltb}
use borrow.Author.Tests.{ltb-true, ltb-false}
use borrow.Rule.Slice.PartMut.{mid_of, put_mid, post_of, take_put, mid_len, same_len_mid}
use Rattle.std.specs.Fmt.{decimal, digits, digits_onto, digit_glyph}
use Rattle.std.specs.Prelude.{◌==◌}
use Rattle.std.proofs.lemmas.Bool.Decides.{nat_tests}
use Rattle.std.proofs.lemmas.List.{take-append-le}
use Rattle.std.proofs.lemmas.Slice.{take-put_mid}
use Rattle.pendlist_rows.specs.Text.{places_from, decimal_of, last_digits, number_text, numbers_text, Puts}

-- The fewest digits that hold a number, tried from j on.
record Fewest (n most k : ℕ) : Type 0 where
  some : 0 < k
  few : k ≤ most
  hold : n < 10 ^ k
  least : 1 < k → 10 ^ (k - 1) ≤ n

places_fewest : (n tries j : ℕ) → 0 < j → (1 < j → 10 ^ (j - 1) ≤ n) → n < 10 ^ (j + tries) →
    Fewest n (j + tries) (places_from tries j n)
unfolding places_from
places_fewest n zero j some least hold = record {
  some = some;
  few = omega arith;
  hold = rw add-zero at hold;
  least = least;
}
places_fewest n (suc tries) j some least hold = by_test (ltb n (10 ^ j)) refl
    (places_fewest n tries (suc j) (omega arith))
  where
    by_test : (q : Bool) → ltb n (10 ^ j) ≡ q →
        ((1 < suc j → 10 ^ (suc j - 1) ≤ n) → n < 10 ^ (suc j + tries) → Fewest n (suc j + tries)
        (places_from tries (suc j) n)) →
        Fewest n (j + suc tries) (cond q j (places_from tries (suc j) n))
    by_test true e next = record { some = some; few = omega arith; hold = ltb-true n (10 ^ j) e; least = least }
    by_test false e next =
        let same : j + suc tries ≡ suc j + tries = omega arith in
        let left : Fewest n (suc j + tries) (places_from tries (suc j) n) =
        next (λ _. simp unary_clauses (ltb-false n (10 ^ j) e)) (subst (λ (m : ℕ). n < 10 ^ m) same hold) in
        record { some = left.some; few = omega (arith, left.few); hold = left.hold; least = left.least }

glyph : (d : ℕ) → d < 10 → digit_glyph false d ≡ 48 + d
glyph d h = grind (arith, nat_tests)

none_left : (n : ℕ) → (n / 10 == 0) ≡ true → n < 10
none_left n e = grind (arith, nat_tests)

some_left : (n : ℕ) → (n / 10 == 0) ≡ false → 10 ≤ n
some_left n e = grind (arith, nat_tests)

-- std's digits of a number that suc j digits hold, and no fewer
digits_are : (j turns n : ℕ) (more : List ℕ) → n < 10 ^ suc j → (0 < j → 10 ^ j ≤ n) → j < turns →
    digits_onto turns 10 false n more ≡ last_digits (suc j) n ++ more
digits_are j zero n more hold least h = absurd (omega arith)
digits_are zero (suc turns) n more hold least h = by_test (n / 10 == 0) refl
  where
    by_test : (q : Bool) → (n / 10 == 0) ≡ q →
        (cond q (digit_glyph false (n % 10) ∷ more) (digits_onto turns 10 false (n / 10)
        (digit_glyph false (n % 10) ∷ more)))
        ≡ last_digits 1 n ++ more
    by_test true e = ap (λ (d : ℕ). d ∷ more) (glyph (n % 10) (omega arith))
    by_test false e = absurd (omega (arith, some_left n e))
digits_are (suc j) (suc turns) n more hold least h =
    by_test (n / 10 == 0) refl (digits_are j turns (n / 10) (digit_glyph false (n % 10) ∷ more))
  where
    by_test : (q : Bool) → (n / 10 == 0) ≡ q →
        (n / 10 < 10 ^ suc j → (0 < j → 10 ^ j ≤ n / 10) → j < turns →
        digits_onto turns 10 false (n / 10) (digit_glyph false (n % 10) ∷ more)
        ≡ last_digits (suc j) (n / 10) ++ (digit_glyph false (n % 10) ∷ more)) →
        (cond q (digit_glyph false (n % 10) ∷ more) (digits_onto turns 10 false (n / 10)
        (digit_glyph false (n % 10) ∷ more)))
        ≡ last_digits (suc (suc j)) n ++ more
    by_test true e next =
        let large : 10 ^ suc j ≤ n = least (omega arith) in
        absurd (omega (arith, none_left n e, pow-suc 10 j, one-le-pow j 10 (omega arith), large))
    by_test false e next =
        let large : 10 ^ suc j ≤ n = least (omega arith) in
        next (omega (arith, pow-suc 10 (suc j))) (λ _. omega (arith, pow-suc 10 j, large)) (omega arith)
        ∙ rw (glyph (n % 10) (omega arith)) (sym (append_assoc (last_digits (suc j) (n / 10)) ((48 + n % 10) ∷ [])
        more))

all_digits : (n turns k : ℕ) → 20 ≤ turns → Fewest n 20 k → digits_onto turns 10 false n [] ≡ last_digits k n
all_digits n turns zero h fewest = absurd (omega (arith, fewest.some))
all_digits n turns (suc k) h fewest =
    digits_are k turns n [] fewest.hold (λ more. simp unary_clauses at (fewest.least (omega arith)))
    (omega (arith, fewest.few))
    ∙ append-nil (last_digits (suc k) n)

-- what `itoa` writes
pub decimal_is : {n : ℕ} → n < 18446744073709551616 → decimal n ≡ decimal_of n
unfolding decimal_of digits
decimal_is {n} h =
    all_digits n 64 (places_from 19 1 n) (omega arith)
    (places_fewest n 19 1 (omega arith) (λ more. absurd (omega arith)) (omega arith))

-- One piece behind another: it is put into the part that begins behind the first.
module _ {text more : List ℕ} {most most' r r' : ℕ} where
  pub put_more : (out part : List ℕ) → Puts text most r out → Puts more most' r' part → r ≤ length out →
      r' ≤ length part → Puts (text ++ more) (most + most') (r + r') (put_mid r (length out - r) out part)
  put_more out part first then within within' =
      let whole : List ℕ = put_mid r (length out - r) out part in
      let post : List ℕ = post_of r (length out - r) out in
      let behind : drop r whole ≡ part ++ post = drop_at (take r out) (part ++ post) r (length-take-le r out within) in
      record {
        stands =
            take-add r r' whole
            ∙ rw (
              take_put r (length out - r) out part within,
              behind,
              take-append-le r' part post within',
              first.stands,
              then.stands,
            );
        short = omega (arith, first.short, then.short);
      }

-- a first byte, and a last one
pub first_put : (b : ℕ) (out : List ℕ) → 0 < length out → Puts (b ∷ []) 1 1 (set out 0 b)
first_put b [] h = absurd (omega arith)
first_put b (x ∷ out) h = record { stands = refl; short = omega arith }

pub last_put : (b : ℕ) (out : List ℕ) {text : List ℕ} {most r : ℕ} → Puts text most r out → r < length out →
    Puts (text ++ (b ∷ [])) (most + 1) (r + 1) (set out r b)
last_put b out {r = r} text h = record {
  stands = rw (add-one, take-suc-set out r b h, text.stands);
  short = omega (arith, text.short);
}

-- a blank, then the digits
pub number_put : (n : ℕ) (out : List ℕ) {digits part : List ℕ} → n < 18446744073709551616 → digits ≡ decimal n →
    length digits ≤ 20 → 21 ≤ length out → part ≡ digits →
    Puts (number_text n) 21 (1 + length digits) (put_mid 1 (1 + length digits - 1) (set out 0 32) part)
number_put n out {digits} {part} fits right few room is =
    let blank : take 1 (set out 0 32) ≡ 32 ∷ [] = (first_put 32 out (omega arith)).stands in
    record {
      stands =
          take-put_mid 1 _ (set out 0 32) part (1 + length digits) (rw is) (omega (arith, length-set out 0 32))
          ∙ rw (blank, is, right, decimal_is fits);
      short = omega arith;
    }

-- Numbers, one after the other.
numbers_end : (ns : List ℕ) (n : ℕ) → numbers_text (ns ++ (n ∷ [])) ≡ numbers_text ns ++ number_text n
unfolding numbers_text
numbers_end [] n = append-nil (number_text n)
numbers_end (m ∷ ns) n = rw (numbers_end ns n) (sym (append_assoc (number_text m) (numbers_text ns) (number_text n)))

pub record NumbersPut (numbers : List ℕ) (i end : ℕ) (out₀ out : List ℕ) : Type 0 where
  pub passed : i ≤ length numbers
  pub same_length : length out ≡ length out₀
  pub puts : Puts (numbers_text (take i numbers)) (21 * i) end out

pub none_put : (numbers out : List ℕ) → NumbersPut numbers 0 0 out out
unfolding numbers_text
none_put numbers out = record {
  passed = omega arith;
  same_length = refl;
  puts = record { stands = refl; short = omega arith };
}

module _ {numbers : List ℕ} {i end : ℕ} {out₀ out : List ℕ} (inv : NumbersPut numbers i end out₀ out) where
  pub one_put : {r : ℕ} {part : List ℕ} → i < length numbers → 21 * length numbers ≤ length out₀ →
      length part ≡ length (mid_of end (length out - end) out) → Puts (number_text (get_or numbers i 0)) 21 r part →
      NumbersPut numbers (i + 1) (end + r) out₀ (put_mid end (length out - end) out part)
  one_put {r} {part} h room long next =
      let short : end ≤ 21 * i = inv.puts.short in
      let left : length part ≡ length out - end = long ∙ mid_len end (length out) out (omega arith) in
      let longer : numbers_text (take (i + 1) numbers) ≡ numbers_text (take i numbers) ++ number_text
      (get_or numbers i 0) =
      rw (add-one, take-suc numbers i 0 h) (numbers_end (take i numbers) (get_or numbers i 0)) in
      let both : Puts _ (21 * i + 21) (end + r) (put_mid end (length out - end) out part) =
      put_more out part inv.puts next (omega (arith, inv.same_length)) (omega (arith, next.short, inv.same_length)) in
      record {
        passed = omega arith;
        same_length = same_len_mid end (length out - end) out part long ∙ inv.same_length;
        puts = record { stands = both.stands ∙ rw longer; short = omega (arith, both.short) };
      }

  pub all_put : length numbers ≤ i → Puts (numbers_text numbers) (21 * length numbers) end out
  all_put h =
      let z : i ≡ length numbers = omega (arith, inv.passed) in
      rw (z, take-length) at inv.puts

pub ruleset putting = (none_put, one_put, all_put)

-- a letter, numbers, and a newline
pub row_put : (letter : ℕ) (text out part : List ℕ) {r : ℕ} → 107 ≤ length out →
    length part ≡ length (mid_of 1 (length (set out 0 letter) - 1) (set out 0 letter)) →
    Puts text 105 r part →
    Puts (letter ∷ (text ++ (10 ∷ []))) 107 (1 + r + 1)
    (set (put_mid 1 (length (set out 0 letter) - 1) (set out 0 letter) part) (1 + r) 10)
row_put letter text out part {r} room long told =
    let begun : List ℕ = set out 0 letter in
    let kept : length begun ≡ length out = length-set out 0 letter in
    let left : length part ≡ length begun - 1 = long ∙ mid_len 1 (length begun) begun (omega arith) in
    let both : Puts (letter ∷ text) 106 (1 + r) (put_mid 1 (length begun - 1) begun part) =
    put_more begun part (first_put letter out (omega arith)) told (omega arith) (omega (arith, told.short)) in
    let same : length (put_mid 1 (length begun - 1) begun part) ≡ length begun =
    same_len_mid 1 (length begun - 1) begun part long in
    last_put 10 (put_mid 1 (length begun - 1) begun part) both (omega (arith, told.short))
