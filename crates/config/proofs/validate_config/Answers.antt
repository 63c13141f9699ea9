use Rattle.config.proofs.Refusals.{has_template, refused_limits, areas_held, areas_short}
use borrow.Author.Rules.{rules}
use Rattle.config.proofs.validate_config.Goals as goal

pub returns-in_err-validate_limits : goal.returns-in_err-validate_limits
returns-in_err-validate_limits c = search (refused_limits, rules)

pub areas_hold-requires : goal.areas_hold-requires
areas_hold-requires c = search (has_template, rules)

pub returns-then-areas_hold : goal.returns-then-areas_hold
returns-then-areas_hold c = search (areas_held, rules)

pub returns : goal.returns
returns c = search (areas_short, rules)
