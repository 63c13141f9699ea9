use Rattle.std.proofs.Common.{rules}
use Rattle.recorded.proofs.DigitsRead.{reading}
use Rattle.recorded.proofs.numbers.leading_number.Goals as goal

pub returns-then-not-is_ascii_digit-clause-value : goal.returns-then-not-is_ascii_digit-clause-value
returns-then-not-is_ascii_digit-clause-value c = search (reading, c.if-not-is_ascii_digit, rules)

pub returns-then-not-is_ascii_digit-clause-count : goal.returns-then-not-is_ascii_digit-clause-count
returns-then-not-is_ascii_digit-clause-count c = search (reading, c.if-not-is_ascii_digit, rules)
