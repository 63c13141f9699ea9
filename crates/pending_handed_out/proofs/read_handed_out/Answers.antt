use Prim.Native.Nat.{◌+◌, ◌-◌}
use mathlib.Core.Path.{◌≡◌}
use native.Mathlib.Omega.{arith}
use Rattle.pending_handed_out.proofs.HandedOut.{reads_handed_out, shown_none, shown_part}
use Rattle.pending_handed_out.proofs.read_handed_out.Goals as goal

pub returns-in_default : goal.returns-in_default
returns-in_default c = reads_handed_out
    (shown_none _ _ _ _ c.place_handed_out.ensures _ c.in_default.is)

pub returns : goal.returns
returns c = let b = c.in-Ok.body in
    let z : b.place + b.len - b.place ≡ b.len = omega arith in
    reads_handed_out
    (rw z (shown_part _ _ _ _ c.place_handed_out.ensures _
    c.in-Ok.is))
