use borrow.Author.Rules.{rules}
use Rattle.offer_steps.proofs.Rooms.{body_stored}
use Rattle.offer_steps.proofs.storing.store_body.Goals as goal

pub returns : goal.returns
returns c = search (body_stored, rules)
