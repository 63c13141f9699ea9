use Rattle.std.proofs.Common.{◌∙◌}
use Rattle.output_fields.proofs.Widths.{any_variable}
use Rattle.output_fields.proofs.has_variable.Goals as goal

pub returns : goal.returns
returns c = c.contains.ensures.value ∙ any_variable _
