use mathlib.Core.Path.{refl}
use Rattle.pending_handed_out.proofs.HandedOut.{handed_out_at}
use Rattle.pending_handed_out.proofs.place_handed_out.Goals as goal

pub returns : goal.returns
returns c = handed_out_at _ _ _ c.examine.ensures c.in_ok-seen.was refl _
    (rw c.in_ok-entry.was at c.ok_or.ensures.ok_part)
