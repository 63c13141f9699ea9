-- The numbers of a text: each run of digits is one.
use Rattle.std.specs.Prelude.{not, List, ℕ, ◌+◌, ◌*◌, ◌-◌, length, drop, take, min, unwrap_or}
use Rattle.std.specs.Char.{is_ascii_digit}
use Rattle.std.specs.List.{fold, position, position_or_len}

-- a value with one digit more, up to 2^64 - 1
abbrev pub with_digit : ℕ → ℕ → ℕ
with_digit value digit = min (min (value * 10) 18446744073709551615 + (digit - 48)) 18446744073709551615

-- the value of digits, up to 2^64 - 1
abbrev pub value_of : List ℕ → ℕ
value_of digits = fold with_digit 0 digits

-- a text from its first digit on
abbrev pub from_digit : List ℕ → List ℕ
from_digit text = drop (position_or_len is_ascii_digit text) text

-- how many digits a text begins with
abbrev pub digits_at_front : List ℕ → ℕ
digits_at_front text = unwrap_or (position (λ byte. not (is_ascii_digit byte)) text) (length text)

-- the digits of a text's first number, and what stands behind them
abbrev pub first_digits : List ℕ → List ℕ
first_digits text = take (digits_at_front (from_digit text)) (from_digit text)

abbrev pub behind_digits : List ℕ → List ℕ
behind_digits text = drop (digits_at_front (from_digit text)) (from_digit text)
