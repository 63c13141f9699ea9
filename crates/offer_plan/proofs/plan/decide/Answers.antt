use borrow.Author.Rules.{rules}
use Rattle.offer_plan.proofs.Steps.{full_decided, held_decided, new_decided, new_full_decided}
use Rattle.offer_plan.proofs.plan.decide.Goals as goal

pub returns-then-limits-here : goal.returns-then-limits-here
returns-then-limits-here c = search (full_decided, rules)

pub returns-then-here-gt0 : goal.returns-then-here-gt0
returns-then-here-gt0 c = search (held_decided, rules)

pub returns-then-others_fill : goal.returns-then-others_fill
returns-then-others_fill c = search (new_full_decided, rules)

pub returns : goal.returns
returns c = search (new_decided, rules)
