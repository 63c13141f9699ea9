use Rattle.offer_plan.proofs.Reaches.{bytes_reached, fewer_missing, still_missing}
use Rattle.offer_plan.proofs.evictions.label_reaches.Goals as goal
use Rattle.offer_plan.proofs.evictions.label_reaches.Goals.{else-label-entry, then-label-entry+else-missing-entry}

pub returns-then-missing-entry : goal.returns-then-missing-entry
returns-then-missing-entry c =
    bytes_reached c.loop-words.invariant _ c.loop-words-test.true c.entry_of-entry.ensures c.if-label-entry.true
    c.if-missing-entry.true

pub loop-words-preserved : goal.loop-words-preserved
loop-words-preserved c =
    elim c.if-label-entry.branch [
      | then-label-entry+else-missing-entry v ↦
          rw v.missing-is
          (fewer_missing c.loop-words.invariant _ c.loop-words-test.true c.entry_of-entry.ensures v.if-label-entry.true
          v.if-missing-entry.false)
      | else-label-entry v ↦
          rw v.missing-is
          (still_missing c.loop-words.invariant _ c.loop-words-test.true c.entry_of-entry.ensures
          v.if-label-entry.false)
    ]
