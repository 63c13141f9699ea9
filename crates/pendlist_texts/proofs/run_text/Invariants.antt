use Rattle.pending_flows.specs.View.{areas_of}
use Rattle.std.specs.Slice.Iter.{split_inclusive_rest}
use Rattle.pendlist_texts.proofs.Lists.{ListAhead}
use Rattle.pendlist_texts.proofs.run_text.Given as goal

abbrev pub invariant-loop-row : goal.invariant-loop-row
invariant-loop-row l = ListAhead l.text l.opened-2 (areas_of l.initial.words l.initial.bytes) l.initial.out (split_inclusive_rest l.row-iterator)
    l.filled l.opened (areas_of l.words l.bytes) l.out
