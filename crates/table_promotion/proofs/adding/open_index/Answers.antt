use mathlib.Core.Path.{refl}
use Rattle.std.proofs.Common.{◌≡◌, ◌+◌, ◌-◌, ◌∙◌, sym, subst, arith, rules}
use borrow.Author.Tests.{leb-true, leb-false}
use Rattle.table_records.specs.Passes.{OpensIndex}
use Rattle.table_records.proofs.OpensIndex.{none_opened, not_greater, key_moved, all_greater}
use Rattle.table_promotion.proofs.adding.open_index.Goals as goal

pub loop-k-init : goal.loop-k-init
loop-k-init c = none_opened _ _ _ _

pub returns-then-key_at_most : goal.returns-then-key_at_most
returns-then-key_at_most c =
    let here : c.loop-k.k - 1 + 1 ≡ c.loop-k.k = omega arith in
    let within = leb-true _ _ (sym c.key_at_most.ensures ∙ c.if-key_at_most.true) in
    rw here (search (not_greater, rules))

pub loop-k-preserved : goal.loop-k-preserved
loop-k-preserved c =
    let told = rw c.records_in-known.ensures.templates at c.key_at_most.ensures in
    let greater = leb-false _ _ (sym told ∙ c.if-key_at_most.false) in
    key_moved c.loop-k.invariant _ (search rules) refl (search rules) greater

pub returns : goal.returns
returns c =
    let none : c.loop-k.k ≡ 0 = omega arith in
    subst (λ k. OpensIndex c.args.from c.args.records c.args.key c.args.words.now c.loop-k.words k) none
    (all_greater c.loop-k.invariant (omega arith))
