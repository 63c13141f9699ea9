use Rattle.std.proofs.Common.{rules, tests, eqb, refl, ◌∙◌, ap}
use Rattle.std.proofs.lemmas.Iterator.Consumers.{nth_from_yields_List}
use Rattle.std.proofs.lemmas.Iterator.Splits.{YieldsList-from_slice_split}
use Rattle.pendlist_words.proofs.Splits.{part_is_word}
use Rattle.pendlist_words.proofs.word_at.Goals as goal

pub returns : goal.returns
returns c =
    ap (λ w. w.now) c.unwrap_or.ensures
    ∙ part_is_word c.args.line.now c.args.k c.nth.result _ refl
    (nth_from_yields_List c.nth.result _ c.args.k c.nth.ensures.ran
    (YieldsList-from_slice_split _ (λ b. eqb b 32) c.args.line.now c.split.ensures.rest c.split.ensures.done
    c.split.ensures.closure (λ x b q k. search (rules, tests))))
