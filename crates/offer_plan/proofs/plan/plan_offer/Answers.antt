use Rattle.std.proofs.Common.{◌≡◌}
use Rattle.table.specs.Reads.{label_in}
use Rattle.pending_flows.proofs.HeldRows.{rows_held}
use Rattle.offer_plan.proofs.Offers.{leaving_few, live_read, live_seen, plan_done}
use borrow.Author.Rules.{rules}
use Rattle.offer_plan.specs.Plan.{is_full, all_expire, for_room}
use Rattle.offer_plan.proofs.plan.plan_offer.Goals as goal
use Rattle.offer_plan.proofs.plan.plan_offer.Goals.{in-Full, in-Room, in-NoRoom}

pub templates-requires : goal.templates-requires
templates-requires c = search (rows_held, rules)

pub entries-entries-requires : goal.entries-entries-requires
entries-entries-requires c = search (rows_held, rules)

pub split_at-requires : goal.split_at-requires
split_at-requires c = search (leaving_few, rules)

pub decide-requires : goal.decide-requires
decide-requires c = record {
  live_read = search (live_read, rules);
  live_seen = search (live_seen, rules);
}

pub returns : goal.returns
returns c =
    let found : c.map.result ≡ label_in c.record_of-own.result = search rules in
    let d = c.decide.result in
    let t = c.match-decide.full in
    let told : (t.0 ≡ is_full d) × ((t.1 ≡ all_expire d) × (t.2 ≡ for_room d)) =
    elim c.match-decide.branch [
      | in-Full w ↦ search rules
      | in-Room w ↦ search rules
      | in-NoRoom w ↦ search rules
    ] in
    search (plan_done, rules)
