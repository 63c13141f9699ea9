use Rattle.std.proofs.Common.{◌≡◌, rules, eqb, count_by}
use Rattle.pendlist_words.proofs.Splits.{blanks_part_words}
use Rattle.pendlist_words.proofs.count_blanks.Goals as goal

pub returns : goal.returns
returns c =
    let counted : c.count.result ≡ count_by (λ b. eqb b 32) c.args.line.now = search rules in
    blanks_part_words c.args.line.now counted
