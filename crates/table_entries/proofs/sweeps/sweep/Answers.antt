use Rattle.std.proofs.Common.{◌≡◌, ◌≤◌, ◌<◌, ◌+◌, ◌-◌, ◌*◌, ◌∙◌, arith, rules}
use Rattle.config.specs.Limits.{entry_words}
use Rattle.table.specs.Layout.{entries_at}
use Rattle.table_entries.specs.Sweep.{swept}
use Rattle.table_entries.proofs.KeepPass.{none_kept, none_left, entry_left_out, entry_kept}
use Rattle.table_entries.proofs.SweepPass.{none_swept, first_goes, first_skipped, first_kept}
use Rattle.table_entries.proofs.sweeps.sweep.Goals as goal
use Rattle.table_entries.proofs.sweeps.sweep.Goals.{then-stays+then-not-spend, else-stays, else-stays-via-then-stays+else-not-spend, else-stays-via-else-stays}

pub loop-i-init : goal.loop-i-init
loop-i-init c = none_kept (swept _ _) _ _ (omega arith)

-- that an entry is left is bound first: a wrong end of the loop is then refused where the loop ends
pub loop-i-preserved : goal.loop-i-preserved
loop-i-preserved c =
    let i = c.loop-i.i in
    let more : 0 < c.args.entries - i = omega arith in
    let less : c.args.entries - (i + 1) ≡ c.args.entries - i - 1 = omega arith in
    let next : entries_at + entry_words * (i + 1) ≡ entries_at + entry_words * i + entry_words = omega arith in
    elim c.if-stays.branch [
      | then-stays+then-not-spend v ↦
          let up : entries_at + entry_words * (c.loop-i.kept + 1) ≡ entries_at + entry_words * c.loop-i.kept + entry_words =
          omega arith in
          rw (v.words-is ∙ v.put_entry.ensures, v.skip-is, v.kept-is, v.bytes-is)
          (search (entry_kept, first_kept, rules))
      | else-stays v ↦
          elim v.else-stays.branch [
            | else-stays-via-then-stays+else-not-spend u ↦
                let skipped = first_skipped _ _ c.stays.ensures u.if-stays.true u.spend.ensures u.if-not-spend.false in
                rw (v.words-is, v.skip-is, u.skip-is, v.kept-is, v.bytes-is) (search (entry_left_out, skipped, rules))
            | else-stays-via-else-stays u ↦
                rw (v.words-is, v.skip-is, u.skip-is, v.kept-is, v.bytes-is) (search (entry_left_out, first_goes, rules))
          ]
    ]

pub returns : goal.returns
returns c = let none : c.args.entries - c.loop-i.i ≤ 0 = omega arith in search (none_left, none_swept, rules)
