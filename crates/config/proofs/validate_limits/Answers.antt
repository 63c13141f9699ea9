use borrow.Author.Rules.{rules}
use Rattle.config.proofs.Refusals.{no_templates, no_entries, no_size, large_size, no_total, small_total}
use Rattle.config.proofs.Refusals.{within_limits}
use Rattle.config.proofs.validate_limits.Goals as goal

pub returns-then-config-eq0 : goal.returns-then-config-eq0
returns-then-config-eq0 c = search (no_templates, rules)

pub returns-then-config-eq0-2 : goal.returns-then-config-eq0-2
returns-then-config-eq0-2 c = search (no_entries, rules)

pub returns-then-config-eq0-3 : goal.returns-then-config-eq0-3
returns-then-config-eq0-3 c = search (no_size, rules)

pub returns-then-config-gt-MAX_ENTRY_SIZE_LIMIT : goal.returns-then-config-gt-MAX_ENTRY_SIZE_LIMIT
returns-then-config-gt-MAX_ENTRY_SIZE_LIMIT c = search (large_size, rules)

pub returns-then-config-eq0-4 : goal.returns-then-config-eq0-4
returns-then-config-eq0-4 c = search (no_total, rules)

pub returns-then-config : goal.returns-then-config
returns-then-config c = search (small_total, rules)

pub returns : goal.returns
returns c = search (within_limits, rules)
