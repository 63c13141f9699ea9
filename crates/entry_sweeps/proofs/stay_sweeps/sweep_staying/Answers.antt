use Rattle.std.proofs.Common.{◌≡◌, ◌≤◌, ◌<◌, ◌+◌, ◌-◌, ◌*◌, arith, sym, ap, ◌∙◌, rules}
use Rattle.config.specs.Limits.{entry_words}
use Rattle.table.specs.Layout.{entries_at}
use Rattle.table_entries.specs.Stays.{stays}
use Rattle.table_entries.specs.Sweep.{put_entry}
use Rattle.table_entries.proofs.KeepPass.{none_kept, none_left, entry_left_out, entry_kept}
use Rattle.entry_sweeps.specs.KeptBy.{kept_by}
use Rattle.entry_sweeps.proofs.KeptBy.{none_kept_by, first_goes, first_kept}
use Rattle.entry_sweeps.proofs.stay_sweeps.sweep_staying.Goals as goal
use Rattle.entry_sweeps.proofs.stay_sweeps.sweep_staying.Goals.{else-stays, then-stays}

pub loop-i-init : goal.loop-i-init
loop-i-init c = none_kept (kept_by (stays _)) _ _ (omega arith)

pub loop-i-preserved : goal.loop-i-preserved
loop-i-preserved c =
    let i = c.loop-i.i in
    let more : 0 < c.args.entries - i = omega arith in
    let less : c.args.entries - (i + 1) ≡ c.args.entries - i - 1 = omega arith in
    let next : entries_at + entry_words * (i + 1) ≡ entries_at + entry_words * i + entry_words = omega arith in
    elim c.if-stays.branch [
      | then-stays v ↦ rw (
        v.words-is ∙ v.move_entry.ensures ∙ ap (put_entry _ _) (sym c.entry_at-entry.ensures),
        v.kept-is,
        v.bytes-is,
        v.to-is,
      )
          (search (entry_kept, first_kept, rules))
      | else-stays v ↦ rw (v.words-is, v.kept-is, v.bytes-is, v.to-is) (search (entry_left_out, first_goes, rules))
    ]

pub returns : goal.returns
returns c = let none : c.args.entries - c.loop-i.i ≤ 0 = omega arith in search (none_left, none_kept_by, rules)
