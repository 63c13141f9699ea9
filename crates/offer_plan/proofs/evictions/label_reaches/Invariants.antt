use Rattle.offer_plan.proofs.Reaches.{BytesSought}
use Rattle.offer_plan.proofs.evictions.label_reaches.Given as goal

abbrev pub invariant-loop-words : goal.invariant-loop-words
invariant-loop-words l = BytesSought l.label l.least l.entries l.missing l.words-index
