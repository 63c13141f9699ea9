use Rattle.std.proofs.Common.{rules}
use Rattle.output_fields.proofs.Widths.{lead_passed}
use Rattle.output_fields.proofs.layout_of.Goals as goal

pub loop-i-preserved : goal.loop-i-preserved
loop-i-preserved c = search (lead_passed, rules)
