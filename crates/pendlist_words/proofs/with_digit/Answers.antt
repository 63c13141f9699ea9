use Rattle.std.proofs.Common.{◌≡◌, true, sym, ◌∙◌}
use Rattle.std.specs.Char.{is_ascii_digit}
use Rattle.pendlist_words.proofs.Digits.{no_digit, product_too_large, sum_checked}
use Rattle.pendlist_words.proofs.with_digit.Goals as goal

pub returns-in_err-checked_mul : goal.returns-in_err-checked_mul
returns-in_err-checked_mul c =
    let digit : is_ascii_digit c.args.byte ≡ true = sym c.is_ascii_digit.ensures.value ∙ c.if-is_ascii_digit.true in
    c.from_residual.ensures ∙ product_too_large c.args.value c.args.byte digit c.in_err-checked_mul.ensures

pub returns-in_ok-checked_mul : goal.returns-in_ok-checked_mul
returns-in_ok-checked_mul c =
    let digit : is_ascii_digit c.args.byte ≡ true = sym c.is_ascii_digit.ensures.value ∙ c.if-is_ascii_digit.true in
    let product = c.in_ok-checked_mul.ensures in
    sum_checked c.args.value c.args.byte digit c.checked_add.result (rw product.1 at c.checked_add.ensures)

pub returns-else-is_ascii_digit : goal.returns-else-is_ascii_digit
returns-else-is_ascii_digit c =
    no_digit c.args.value c.args.byte (sym c.is_ascii_digit.ensures.value ∙ c.if-is_ascii_digit.false)
