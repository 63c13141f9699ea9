use borrow.Author.Rules.{rules}
use Rattle.pending_flows.proofs.HeldRows.{rows_held}
use Rattle.offer_plan.proofs.Steps.{room_already, room_made, one_makes_room}
use Rattle.offer_plan.proofs.evictions.evictions_for.Goals as goal

pub returns-then-figures-room : goal.returns-then-figures-room
returns-then-figures-room c = search (room_already, rules)

pub entries-entries-requires : goal.entries-entries-requires
entries-entries-requires c = search (rows_held, rules)

pub templates-requires : goal.templates-requires
templates-requires c = search (rows_held, rules)

pub returns-then-first_reaches : goal.returns-then-first_reaches
returns-then-first_reaches c = search (one_makes_room, rules)

pub returns : goal.returns
returns c = search (room_made, rules)
