use borrow.Author.Rules.{rules}
use Rattle.planned_removal.proofs.AloneGoing.{alone_removed, expired_alone}
use Rattle.planned_removal.proofs.remove_some.Goals as goal

pub returns-in-Some : goal.returns-in-Some
returns-in-Some c = search (alone_removed, rules)

pub returns-then-only_expired : goal.returns-then-only_expired
returns-then-only_expired c = search (expired_alone, rules)
