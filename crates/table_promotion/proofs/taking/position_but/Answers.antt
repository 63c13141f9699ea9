use mathlib.Core.Path.{ap, ◌∙◌}
use borrow.Author.Rules.{rules}
use Rattle.table_records.specs.Close.{nowhere, position_told}
use Rattle.table_records.proofs.Places.{position_past, position_before, position_behind, position_here}
use Rattle.table_promotion.proofs.taking.position_but.Goals as goal

pub returns-then-records-position : goal.returns-then-records-position
returns-then-records-position c = ap position_told {x = nowhere} (search (position_past, rules))

pub returns-then-position-at : goal.returns-then-position-at
returns-then-position-at c = c.position_told.ensures ∙ ap position_told (search (position_before, rules))

pub returns-then-at-position : goal.returns-then-at-position
returns-then-at-position c = c.position_told-then-at-position.ensures ∙ ap position_told (search (position_behind, rules))

pub returns : goal.returns
returns c = ap position_told {x = nowhere} (search (position_here, rules))
