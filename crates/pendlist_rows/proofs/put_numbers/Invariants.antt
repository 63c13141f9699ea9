use Rattle.pendlist_rows.proofs.Texts.{NumbersPut}
use Rattle.pendlist_rows.proofs.put_numbers.Given as goal

abbrev pub invariant-loop-n : goal.invariant-loop-n
invariant-loop-n l = NumbersPut l.numbers l.n-index l.end l.initial.out l.out
