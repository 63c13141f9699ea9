use Rattle.std.proofs.Common.{refl}
use Rattle.table.specs.Parts.{entry_of}
use Rattle.table.proofs.Parts.{no_part, part_first}
use Rattle.table.proofs.Lookups.{all_summed, live_summed, not_summed}
use Rattle.table.proofs.reads.live_figures.Goals as goal
use Rattle.table.proofs.reads.live_figures.Goals.{else-is_live, then-is_live}

pub loop-words-preserved : goal.loop-words-preserved
loop-words-preserved c =
    let some = part_first entry_of c.args.entries.now c.loop-words.words-index _ c.loop-words-test.true
    c.entry_of-entry.ensures in
    elim c.if-is_live.branch [
      | then-is_live v ↦
          rw (v.bodies-is, v.bytes-is) (live_summed c.loop-words.invariant _ _ some c.is_live.ensures v.if-is_live.true refl)
      | else-is_live v ↦
          rw (v.bodies-is, v.bytes-is) (not_summed c.loop-words.invariant _ _ some c.is_live.ensures v.if-is_live.false)
    ]

pub returns : goal.returns
returns c = all_summed c.loop-words.invariant (no_part entry_of c.args.entries.now c.loop-words.words-index
    c.loop-words-test.false)
