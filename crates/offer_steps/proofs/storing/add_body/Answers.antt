use borrow.Author.Rules.{rules}
use Rattle.offer_steps.proofs.Additions.{body_within, still_rises, body_added}
use Rattle.offer_steps.proofs.storing.add_body.Goals as goal

pub store_body-requires : goal.store_body-requires
store_body-requires c = search (body_within, rules)

pub add_record-requires : goal.add_record-requires
add_record-requires c = record {
  records_in_bounds = search rules;
  records_value = still_rises _ c.requires c.make_room-place.ensures c.store_body.ensures c.records_at.ensures;
}

pub returns : goal.returns
returns c = search (body_added, rules)
