use Rattle.std.proofs.Common.{rules, tests, eqb, ap, ◌∙◌, length}
use Rattle.std.specs.Prelude.{unwrap_or}
use Rattle.std.proofs.lemmas.Iterator.{YieldsList-from_slice}
use Rattle.std.proofs.lemmas.Iterator.Search.{position_from_yields_List}
use Rattle.pendlist_input.proofs.Ends.{end_found}
use Rattle.pendlist_input.proofs.line_end.Goals as goal

pub returns : goal.returns
returns c =
    let text = c.args.text.now in
    let found =
    position_from_yields_List (λ b. eqb b 10) _ _ c.position.result c.position.ensures.ran
    (YieldsList-from_slice text c.iter.ensures.rest) (λ x b q k. search (rules, tests)) in
    c.unwrap_or.ensures ∙ ap (λ r. unwrap_or r (length text)) found ∙ end_found text
