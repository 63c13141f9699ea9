use Rattle.std.proofs.Common.{rules, ◌≡◌, ℕ, ◌<◌, length, get_or}
use Rattle.pendlist_input.proofs.Ends.{last_newline, no_newline}
use Rattle.pendlist_input.proofs.whole_lines.Goals as goal

pub returns-in-Some-clause-last : goal.returns-in-Some-clause-last
returns-in-Some-clause-last c =
    let within : c.in-Some.last < length c.args.text.now = search rules in
    let here : get_or c.args.text.now c.in-Some.last 0 ≡ 10 = search rules in
    let none : (k : ℕ) → c.in-Some.last < k → k < length c.args.text.now → get_or c.args.text.now k 0 ≡ 10 → ⊥ =
    search rules in
    last_newline c.args.text.now c.in-Some.last within here none

pub returns-in-None-clause-last : goal.returns-in-None-clause-last
returns-in-None-clause-last c = no_newline c.args.text.now (search rules)
