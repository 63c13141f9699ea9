use borrow.Author.Rules.{rules}
use Rattle.pending_flows.proofs.HeldRows.{rows_held}
use Rattle.offer_plan.proofs.Offers.{skips_done, skips_set}
use Rattle.offer_plan.proofs.plan.skip_planned.Goals as goal

pub templates-requires : goal.templates-requires
templates-requires c = search (rows_held, rules)

pub returns-in-Some : goal.returns-in-Some
returns-in-Some c = search (skips_set, rules)

pub returns-in_default : goal.returns-in_default
returns-in_default c = search (skips_done, rules)
