-- A number, digit by digit: testing each digit and each value on the way is testing the whole word.
-- Assumes nothing.
use mathlib.Core.Path.{◌≡◌, refl, sym, ◌∙◌}
use mathlib.Core.Bool.{Bool, true, false, cond}
use mathlib.Core.List.{List, [], ◌∷◌}
use Prim.Native.Nat.{ℕ, suc, ◌+◌, ◌*◌, ◌-◌, ◌≤◌, ◌<◌}
use native.Mathlib.Numerals.{add-one}
use native.Mathlib.Omega.{arith}
use lib.ListN.{length, get_or, drop, drop_of_length-le}
use lib.Seq.{drop-cons}
use lib.Dec.{leb, eqb}
use Rattle.std.specs.Str.{bytes_eq}
use Rattle.std.specs.Char.{is_ascii_digit}
use borrow.Author.Tests.{le-leb, lt-leb, leb-true, leb-false, ne_eqb}
use Rattle.std.specs.Prelude.{◌&&◌, Option, Some, None, SomeIff, ◌^◌}
use Rattle.pendlist_words.specs.Words.{is_digit, all_digits, value_from, most, number_from, number_of, is_byte}
use Rattle.pendlist_words.specs.Digits.{with_digit}

-- the number with one digit more
abbrev longer_by : ℕ → ℕ → ℕ
longer_by v b = v * 10 + (b - 48)

value_grows : (v : ℕ) (w : List ℕ) → v ≤ value_from v w
unfolding value_from
value_grows v [] = omega arith
value_grows v (b ∷ w) = omega (arith, value_grows (longer_by v b) w)

-- a number that is too large stays so
too_large : (v : ℕ) (w : List ℕ) → most < v → number_from v w ≡ None
unfolding number_from
too_large v w h = rw (lt-leb (value_from v w) most (omega (arith, value_grows v w))) (either (all_digits w))
  where
    either : (q : Bool) → ◌≡◌ {A = Option ℕ} (cond q None None) None
    either true = refl
    either false = refl

-- what the digits behind a number that was read say
abbrev read_on : Option ℕ → List ℕ → Option ℕ
read_on (Some n) w = number_from n w
read_on None w = None

digit_read : (v b : ℕ) (w : List ℕ) → number_from v (b ∷ w) ≡ read_on (with_digit v b) w
unfolding number_from all_digits value_from with_digit
digit_read v b w = by_digit (is_digit b)
  where
    by_size : (q : Bool) → leb (longer_by v b) most ≡ q →
        number_from (longer_by v b) w ≡ read_on (cond q (Some (longer_by v b)) None) w
    by_size true e = refl
    by_size false e = too_large (longer_by v b) w (leb-false _ _ e)

    by_digit : (q : Bool) →
        cond (cond q (all_digits w) false)
        (cond (leb (value_from (longer_by v b) w) most) (Some (value_from (longer_by v b) w)) None)
        None
        ≡ read_on (cond q (cond (leb (longer_by v b) most) (Some (longer_by v b)) None) None) w
    by_digit true = by_size (leb (longer_by v b) most) refl
    by_digit false = refl

-- a number that was read is not too large
abbrev AtMost : Option ℕ → Type 0
AtMost (Some n) = n ≤ most
AtMost None = Unit {0}

digit_bound : (v b : ℕ) → AtMost (with_digit v b)
unfolding with_digit
digit_bound v b = by_digit (is_digit b)
  where
    by_size : (q : Bool) → leb (longer_by v b) most ≡ q → AtMost (cond q (Some (longer_by v b)) None)
    by_size true e = leb-true _ _ e
    by_size false e = tt

    by_digit : (q : Bool) → AtMost (cond q (cond (leb (longer_by v b) most) (Some (longer_by v b)) None) None)
    by_digit true = by_size (leb (longer_by v b) most) refl
    by_digit false = tt

-- The tests of one digit.
digit_is_ascii : (b : ℕ) → is_digit b ≡ is_ascii_digit b
digit_is_ascii b = both (leb 48 b) (leb b 57)
  where
    both : (p q : Bool) → cond p q false ≡ (p && q)
    both true true = refl
    both true false = refl
    both false q = refl

module _ (v b : ℕ) where
  pub no_digit : is_ascii_digit b ≡ false → ◌≡◌ {A = Option ℕ} None (with_digit v b)
  unfolding with_digit
  no_digit h = rw (digit_is_ascii b, h)

  module _ (h : is_ascii_digit b ≡ true) where
    pub product_too_large : (v * 10 < 2 ^ 64 → ⊥) → ◌≡◌ {A = Option ℕ} None (with_digit v b)
    unfolding with_digit
    product_too_large f = rw (digit_is_ascii b, h, lt-leb (longer_by v b) most (omega arith))

    pub sum_checked : (r : Option ℕ) → SomeIff r (longer_by v b < 2 ^ 64) (longer_by v b) → r ≡ with_digit v b
    unfolding with_digit
    sum_checked (Some x) (fits, e) = rw (digit_is_ascii b, h, le-leb (longer_by v b) most (omega arith), e)
    sum_checked None f = rw (digit_is_ascii b, h, lt-leb (longer_by v b) most (omega arith))

-- The loop over the digits: the word says what the rest says behind the number so far.
pub record NumberAhead (word : List ℕ) (value i : ℕ) : Type 0 where
  pub passed : i ≤ length word
  pub fitting : value ≤ most
  pub ahead : number_from value (drop i word) ≡ number_of word

pub empty_word : (w : List ℕ) → length w ≡ 0 → ◌≡◌ {A = Option ℕ} None (number_of w)
unfolding number_of
empty_word [] h = refl
empty_word (b ∷ w) h = absurd (omega arith)

pub no_digit_passed : (w : List ℕ) → (length w ≡ 0 → ⊥) → NumberAhead w 0 0
unfolding number_of
no_digit_passed [] h = absurd (h refl)
no_digit_passed (b ∷ w) h = record { passed = omega arith; fitting = omega arith; ahead = refl }

module _ {word : List ℕ} {value i : ℕ} (inv : NumberAhead word value i) where
  next_digit : i < length word → number_of word ≡ read_on (with_digit value (get_or word i 0)) (drop (i + 1) word)
  next_digit h =
      sym inv.ahead ∙ rw (add-one, drop-cons word i 0 h) (digit_read value (get_or word i 0) _)

  pub digit_passed : {n : ℕ} → i < length word → Some n ≡ with_digit value (get_or word i 0) →
      NumberAhead word n (i + 1)
  digit_passed {n} h e =
      record {
        passed = omega arith;
        fitting = rw (sym e) at (digit_bound value (get_or word i 0));
        ahead = sym (next_digit h ∙ rw (sym e));
      }

  pub digit_missing : i < length word → ◌≡◌ {A = Option ℕ} None (with_digit value (get_or word i 0)) →
      ◌≡◌ {A = Option ℕ} None (number_of word)
  digit_missing h e = sym (next_digit h ∙ rw (sym e))

  pub number_read : length word ≤ i → ◌≡◌ {A = Option ℕ} (Some value) (number_of word)
  unfolding number_from all_digits value_from
  number_read h =
      sym (rw (drop_of_length-le word h, le-leb value most inv.fitting) at (sym inv.ahead))

pub ruleset loop_rules = (empty_word, no_digit_passed, digit_passed, digit_missing, number_read)

pub one_byte : (byte : ℕ) (word : List ℕ) → bytes_eq word (byte ∷ []) ≡ is_byte byte word
unfolding is_byte
one_byte byte [] = refl
one_byte byte (b ∷ []) = by_test (eqb b byte)
  where
    by_test : (q : Bool) → (q && true) ≡ q
    by_test true = refl
    by_test false = refl
one_byte byte (b ∷ d ∷ w) = rw (ne_eqb (suc (suc (length w))) 1 (omega arith)) (by_test (eqb b byte))
  where
    by_test : (q : Bool) → (q && false) ≡ false
    by_test true = refl
    by_test false = refl
