-- The digits that a text begins with, read one by one. Assumes nothing.
use Rattle.std.proofs.Common.{◌≡◌, refl, sym, ap, ◌∙◌, ℕ, ◌+◌, ◌≤◌, ◌<◌, List, length, take, get_or, arith}
use mathlib.Core.Bool.{true, false, not, cond}
use mathlib.Core.Logic.{⊎_elim}
use lib.Dec.{ltb}
use Rattle.std.specs.Prelude.{Some, None, unwrap_or}
use Rattle.std.specs.Char.{is_ascii_digit}
use Rattle.std.specs.List.{position_or_len}
use Rattle.std.proofs.lemmas.Bool.{cases_lt, lt-ltb, le-ltb}
use Rattle.std.proofs.lemmas.List.Sums.{fold_more, position_or_len_is}
use Rattle.recorded.specs.Digits.{with_digit, value_of, digits_at_front}

-- the first i bytes are digits, and the value is theirs
pub record DigitsRead (text : List ℕ) (value i : ℕ) : Type 0 where
  pub read : value ≡ value_of (take i text)
  pub digits : (k : ℕ) → k < i → not (is_ascii_digit (get_or text k 0)) ≡ false

pub none_read : (text : List ℕ) → DigitsRead text 0 0
none_read text = record { read = refl; digits = λ k h. absurd (omega (arith, h)) }

-- the place of the first that passes, or the length
or_length : (i len : ℕ) → i ≤ len → unwrap_or (cond (ltb i len) (Some i) None) len ≡ i
or_length i len h =
    ⊎_elim (λ (more : i < len). rw (lt-ltb i len more) refl)
    (λ (none : len ≤ i). rw (le-ltb i len none) (omega arith)) (cases_lt i len)

module _ {text : List ℕ} {value i : ℕ} (inv : DigitsRead text value i) where
  pub digit_read : (value' : ℕ) → i < length text → not (is_ascii_digit (get_or text i 0)) ≡ false →
      value' ≡ with_digit value (get_or text i 0) → DigitsRead text value' (i + 1)
  digit_read value' more is e = record {
    read = e ∙ ap (λ v. with_digit v (get_or text i 0)) inv.read ∙ sym (fold_more with_digit 0 text i 0 more);
    digits = λ k h. ⊎_elim (λ (before : k < i). inv.digits k before)
        (λ (from : i ≤ k). let same : k ≡ i = omega arith in rw same is) (cases_lt k i);
  }

  -- where the next byte is no digit, or none is left, these are all the digits at the front
  all_read : i ≤ length text → (i < length text → not (is_ascii_digit (get_or text i 0)) ≡ true) →
      i ≡ digits_at_front text
  all_read h stop =
      let n : position_or_len (λ b. not (is_ascii_digit b)) text ≡ i =
      position_or_len_is (λ b. not (is_ascii_digit b)) text i 0 h inv.digits stop in
      rw n (sym (or_length i (length text) h))

  pub stopped_count : i < length text → not (is_ascii_digit (get_or text i 0)) ≡ true → i ≡ digits_at_front text
  stopped_count more is = all_read (omega arith) (λ h. is)

  pub stopped_value : i < length text → not (is_ascii_digit (get_or text i 0)) ≡ true →
      value ≡ value_of (take (digits_at_front text) text)
  stopped_value more is = inv.read ∙ ap (λ n. value_of (take n text)) (stopped_count more is)

  pub ended_count : length text ≡ i → length text ≡ digits_at_front text
  ended_count e = e ∙ all_read (omega (arith, e)) (λ h. absurd (omega (arith, e, h)))

  pub ended_value : length text ≡ i → value ≡ value_of (take (digits_at_front text) text)
  ended_value e = inv.read ∙ ap (λ n. value_of (take n text)) (sym e ∙ ended_count e)

-- the loop over the digits
pub ruleset reading = (digit_read, stopped_count, stopped_value, ended_count, ended_value)
