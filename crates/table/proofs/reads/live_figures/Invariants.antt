use Rattle.table.specs.Parts.{entries_of}
use Rattle.table.proofs.Lookups.{LiveSummed}
use Rattle.table.proofs.reads.live_figures.Given as goal

abbrev pub invariant-loop-words : goal.invariant-loop-words
invariant-loop-words l = LiveSummed l.ttl l.clock l.label (entries_of l.entries) l.bodies l.bytes l.words-index
