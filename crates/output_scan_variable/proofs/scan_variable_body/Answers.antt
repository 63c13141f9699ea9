use mathlib.Core.Path.{sym, ◌∙◌}
use Rattle.output_scan.proofs.Fixed.{by_division}
use Rattle.output_scan.proofs.Layouts.{fixed_plain}
use Rattle.output_scan_variable.proofs.scan_variable_body.Goals as goal

pub returns-in-Fixed : goal.returns-in-Fixed
returns-in-Fixed c = by_division _ _ _ _ _ _
    (fixed_plain _ (sym c.layout_of.ensures ∙ c.in-Fixed.is))
    c.args.framing.sized c.args.framing.some c.scan_fixed_body.ensures
