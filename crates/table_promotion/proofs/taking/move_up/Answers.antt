use Rattle.std.proofs.Common.{◌≡◌, ◌≤◌, ◌<◌, ◌+◌, ◌-◌, arith, rules}
use Rattle.table_records.proofs.MovesUp.{none_moved, one_moved_lem, all_moved}
use Rattle.table_promotion.proofs.taking.move_up.Goals as goal

pub loop-i-init : goal.loop-i-init
loop-i-init c = search (none_moved, rules)

pub loop-i-preserved : goal.loop-i-preserved
loop-i-preserved c =
    let i = c.loop-i.i in
    let more : 0 < c.args.records - 1 - i = omega arith in
    let less : c.args.records - 1 - (i + 1) ≡ c.args.records - 1 - i - 1 = omega arith in
    search (one_moved_lem, rules)

pub returns : goal.returns
returns c = let none : c.args.records - 1 - c.loop-i.i ≤ 0 = omega arith in search (all_moved, rules)
