use borrow.Author.Rules.{rules}
use Rattle.pending_flows.proofs.HeldRows.{rows_held}
use Rattle.packed_removal.proofs.ForBody.{total_placed, total_few, packed_for}
use Rattle.packed_removal.proofs.remove_for_body.Goals as goal

pub entries-entries-requires : goal.entries-entries-requires
entries-entries-requires c = search (rows_held, rules)

pub ends_past-requires : goal.ends_past-requires
ends_past-requires c = search (total_placed, total_few, rules)

pub returns-then-ends_past : goal.returns-then-ends_past
returns-then-ends_past c = search (packed_for, rules)
