use Rattle.recorded.proofs.DigitsRead.{DigitsRead}
use Rattle.recorded.proofs.numbers.leading_number.Given as goal

abbrev pub invariant-loop-i : goal.invariant-loop-i
invariant-loop-i l = DigitsRead l.text l.value l.i
