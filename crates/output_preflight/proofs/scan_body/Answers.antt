use Rattle.std.proofs.Common.{inl, inr}
use Rattle.output_scan.proofs.Fixed.{all_plain, by_division}
use Rattle.output_preflight.proofs.scan_body.Goals as goal

pub returns-in-V9Fixed : goal.returns-in-V9Fixed
returns-in-V9Fixed c =
    by_division _ _ _ _ _ _ (all_plain _ (λ w. elim c.in-V9Fixed.is [ inl e ↦ rw e | inr e ↦ rw e ]) _)
    c.requires.0 c.requires.1 c.scan_fixed_body.ensures
