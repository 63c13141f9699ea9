-- What is read of a text number by number.
use Rattle.std.specs.Prelude.{◌≡◌, Option, None, ℕ, MatchOption}
use Rattle.std.specs.Char.{is_ascii_digit}
use Rattle.std.specs.List.{position}
use Rattle.recorded.specs.declared.numbers.Numbers.{Numbers}
use Rattle.recorded.specs.Digits.{value_of, first_digits, behind_digits}

-- the first number of what is left of the text is read, and what stands behind it is left; none where no digit is left
abbrev pub GivesNumber : Numbers → Option ℕ → Numbers → Type 0
GivesNumber before number after =
    MatchOption number
    ((position is_ascii_digit before.rest.now ≡ None) × (after.rest.now ≡ before.rest.now))
    (λ n. (n ≡ value_of (first_digits before.rest.now)) × (after.rest.now ≡ behind_digits before.rest.now))
