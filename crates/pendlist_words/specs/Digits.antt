-- Reading a number digit by digit.
use Rattle.std.specs.Prelude.{Option, Some, None, cond, ℕ, ◌+◌, ◌*◌, ◌-◌, leb}
use Rattle.pendlist_words.specs.Words.{is_digit, most}

-- a number with one digit more, if the byte is a digit and the number is not too large
unfoldable pub with_digit : ℕ → ℕ → Option ℕ
with_digit v b =
    cond (is_digit b) (cond (leb (v * 10 + (b - 48)) most) (Some (v * 10 + (b - 48))) None) None
