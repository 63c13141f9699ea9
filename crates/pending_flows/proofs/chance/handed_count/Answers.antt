use borrow.Author.Rules.{rules}
use native.Mathlib.Omega.{arith}
use Rattle.pending_flows.proofs.Questions.{header_within, bodies_few}
use Rattle.pending_flows.proofs.Figures.{handed_none, handed_one, handed_within}
use Rattle.pending_flows.proofs.chance.handed_count.Goals as goal

pub bounds-words-11 : goal.bounds-words-11
bounds-words-11 c = omega (arith, header_within _ _ c.requires.0)

pub returns-then-words-eq0 : goal.returns-then-words-eq0
returns-then-words-eq0 c = search (handed_none, rules)

pub bounds-words-9 : goal.bounds-words-9
bounds-words-9 c = omega (arith, header_within _ _ c.requires.0)

pub records_at-requires : goal.records_at-requires
records_at-requires c = search (bodies_few, rules)

pub overflow_mul-held : goal.overflow_mul-held
overflow_mul-held c = omega (
  arith,
  handed_within _ _ _ _ c.requires.0
      c.requires.1 c.records_at.ensures
      c.if-words-eq0.false,
)

pub overflow_add-records_at : goal.overflow_add-records_at
overflow_add-records_at c = omega (
  arith,
  handed_within _ _ _ _ c.requires.0
      c.requires.1 c.records_at.ensures
      c.if-words-eq0.false,
)

pub record_at-requires : goal.record_at-requires
record_at-requires c = search (handed_within, rules)

pub returns : goal.returns
returns c = search (handed_one, rules)
