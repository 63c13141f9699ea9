use Rattle.std.proofs.Common.{◌≡◌, ◌≤◌, ◌<◌, ◌+◌, ◌-◌, ◌*◌, arith, ◌∙◌, rules}
use Rattle.config.specs.Limits.{entry_words}
use Rattle.table.specs.Layout.{entries_at}
use Rattle.table_entries.specs.Stays.{stays}
use Rattle.table_entries.proofs.PackPass.{none_packed, all_packed_up, entry_packed, entry_passed_over}
use Rattle.table_entries.proofs.PackPass.{run_before, place_within, new_place_fits, new_length_fits}
use Rattle.entry_sweeps.specs.KeptBy.{kept_by}
use Rattle.entry_sweeps.proofs.KeptBy.{none_kept_by, first_goes, first_kept}
use Rattle.entry_sweeps.proofs.packing_sweeps.sweep_packing.Goals as goal
use Rattle.entry_sweeps.proofs.packing_sweeps.sweep_packing.Goals.{else-stays, then-stays}

pub loop-i-init : goal.loop-i-init
loop-i-init c = none_packed (kept_by (stays _)) _ _ _ (omega arith) c.requires

pub run_up_to-run-requires : goal.run_up_to-run-requires
run_up_to-run-requires c = let more : 0 < c.args.entries - c.loop-i.i = omega arith in search (run_before, place_within, rules)

pub overflow_add-place : goal.overflow_add-place
overflow_add-place c = let more : 0 < c.args.entries - c.loop-i.i = omega arith in record { fits = search (new_place_fits, rules) }

pub overflow_add-run : goal.overflow_add-run
overflow_add-run c = let more : 0 < c.args.entries - c.loop-i.i = omega arith in record { fits = search (new_length_fits, rules) }

pub loop-i-preserved : goal.loop-i-preserved
loop-i-preserved c =
    let i = c.loop-i.i in
    let more : 0 < c.args.entries - i = omega arith in
    let less : c.args.entries - (i + 1) ≡ c.args.entries - i - 1 = omega arith in
    let next : entries_at + entry_words * (i + 1) ≡ entries_at + entry_words * i + entry_words = omega arith in
    let up : entries_at + entry_words * (c.loop-i.kept + 1) ≡ entries_at + entry_words * c.loop-i.kept + entry_words =
    omega arith in
    elim c.if-stays.branch [
      | then-stays v ↦ rw (v.words-is ∙ v.put_entry.ensures, v.bytes-is, v.run-is, v.kept-is)
          (search (entry_packed, v.run_up_to-run.ensures, first_kept, rules))
      | else-stays v ↦ rw (v.words-is, v.bytes-is, v.run-is, v.kept-is)
          (search (entry_passed_over, first_goes, rules))
    ]

pub returns : goal.returns
returns c = let none : c.args.entries - c.loop-i.i ≤ 0 = omega arith in search (all_packed_up, none_kept_by, rules)
