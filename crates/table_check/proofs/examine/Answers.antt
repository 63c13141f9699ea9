use borrow.Author.Rules.{rules}
use borrow.Author.Tests.{not-true, not-false}
use Rattle.table_check.proofs.Header.{short_header, limits_refused, has_template, few_bodies, counts_wrong}
use Rattle.table_check.proofs.Header.{header_legal, table_seen}
use Rattle.table_watch.proofs.Verdicts.{damaged}
use Rattle.table_check.proofs.examine.Goals as goal

pub returns-then-words-lt-HEADER_WORDS : goal.returns-then-words-lt-HEADER_WORDS
returns-then-words-lt-HEADER_WORDS c = search (damaged, short_header, rules)

pub returns-in_default : goal.returns-in_default
returns-in_default c = search (damaged, limits_refused, rules)

pub counts_legal-requires : goal.counts_legal-requires
counts_legal-requires c = search (has_template, few_bodies, rules)

pub returns-then-not-counts_legal : goal.returns-then-not-counts_legal
returns-then-not-counts_legal c = search (damaged, counts_wrong, not-true, rules)

pub examine_table-requires : goal.examine_table-requires
examine_table-requires c = search (header_legal, not-false, rules)

pub returns : goal.returns
returns c = search (table_seen, not-false, rules)
