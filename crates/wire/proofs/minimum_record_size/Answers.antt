use Rattle.std.proofs.Common.{◌≡◌, ℕ, ◌∙◌, sum_by, rules}
use Rattle.wire.specs.Size.{least_field_size}
use Rattle.wire.proofs.Sizes.{least_sum}
use Rattle.wire.proofs.minimum_record_size.Goals as goal

pub returns : goal.returns
returns c =
    let e : c.sum.result ≡ sum_by (λ (w : ℕ). least_field_size w c.args.reading) c.args.widths.now = search rules in
    e ∙ least_sum _ _
