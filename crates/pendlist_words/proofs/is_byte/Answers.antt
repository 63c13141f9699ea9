use Rattle.std.proofs.Common.{◌∙◌, ap}
use Rattle.std.specs.Str.{bytes_eq}
use Rattle.pendlist_words.proofs.Digits.{one_byte}
use Rattle.pendlist_words.proofs.is_byte.Goals as goal

pub returns : goal.returns
returns c =
    c.eq.ensures ∙ ap (λ s. bytes_eq c.args.word.now s) c.as_slice.ensures ∙ one_byte c.args.byte c.args.word.now
