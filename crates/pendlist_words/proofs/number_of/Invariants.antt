use Rattle.pendlist_words.proofs.Digits.{NumberAhead}
use Rattle.pendlist_words.proofs.number_of.Given as goal

abbrev pub invariant-loop-byte : goal.invariant-loop-byte
invariant-loop-byte l = NumberAhead l.word l.value l.byte-index
