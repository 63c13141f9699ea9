use native.Mathlib.Omega.{arith}
use native.Mathlib.Nat.{mul-le-mul}
use Rattle.config.proofs.Refusals.{many_templates, many_entries, many_bodies, large_total, few_bytes, by_words}
use borrow.Author.Rules.{rules}
use Rattle.config.proofs.areas_hold.Goals as goal

pub returns-then-templates-gt-MAX_TEMPLATES : goal.returns-then-templates-gt-MAX_TEMPLATES
returns-then-templates-gt-MAX_TEMPLATES c = search (many_templates, rules)

pub returns-then-entries-gt-MAX_BODIES : goal.returns-then-entries-gt-MAX_BODIES
returns-then-entries-gt-MAX_BODIES c = search (many_entries, rules)

pub overflow_mul-templates : goal.overflow_mul-templates
overflow_mul-templates c = omega (
  arith,
  mul-le-mul c.if-templates-gt-MAX_TEMPLATES.false
      c.if-entries-gt-MAX_BODIES.false,
)

pub returns-then-templates-entries-gt-MAX_BODIES : goal.returns-then-templates-entries-gt-MAX_BODIES
returns-then-templates-entries-gt-MAX_BODIES c = search (many_bodies, rules)

pub returns-then-config-gt-MAX_BYTES : goal.returns-then-config-gt-MAX_BYTES
returns-then-config-gt-MAX_BYTES c = search (large_total, rules)

pub returns-then-bytes_len-config : goal.returns-then-bytes_len-config
returns-then-bytes_len-config c = search (few_bytes, rules)

pub returns : goal.returns
returns c = search (by_words, rules)
