use Rattle.output_fields.proofs.Widths.{LeadPassed}
use Rattle.output_fields.proofs.layout_of.Given as goal

abbrev pub invariant-loop-i : goal.invariant-loop-i
invariant-loop-i l = LeadPassed l.widths l.lead l.i
