use Rattle.std.proofs.Common.{◌-◌, ◌<◌, arith, rules}
use Rattle.table_entries.proofs.PackAll.{none_packed_yet, all_packed, next_packed}
use Rattle.table_entries.proofs.PackPass.{run_before, place_within, new_length_fits}
use Rattle.table_entries.proofs.pack.pack_bodies.Goals as goal

pub loop-i-init : goal.loop-i-init
loop-i-init c = search (none_packed_yet, rules)

pub run_up_to-run-requires : goal.run_up_to-run-requires
run_up_to-run-requires c = let more : 0 < c.args.entries - c.loop-i.i = omega arith in
    search (run_before, place_within, rules)

pub overflow_add-run : goal.overflow_add-run
overflow_add-run c = let more : 0 < c.args.entries - c.loop-i.i = omega arith in
    record { fits = search (new_length_fits, rules) }

pub loop-i-preserved : goal.loop-i-preserved
loop-i-preserved c = search (next_packed, rules)

pub returns : goal.returns
returns c = search (all_packed, rules)
