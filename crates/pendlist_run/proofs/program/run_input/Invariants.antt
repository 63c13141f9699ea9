use mathlib.Core.Path.{◌≡◌}
use lib.ListN.{length}
use Rattle.pending_flows.specs.View.{areas_of}
use Rattle.pendlist_run.proofs.Inputs.{InputAhead}
use Rattle.pendlist_run.proofs.program.run_input.Given as goal

abbrev pub invariant-loop : goal.invariant-loop
invariant-loop g l =
    (InputAhead (areas_of l.initial.words l.initial.bytes) (g.R.Read.remaining l.initial.reader)
    (g.W.Write.contents l.initial.writer) l.kept l.buffer l.opened (areas_of l.words l.bytes)
    (g.R.Read.remaining l.reader) (g.W.Write.contents l.writer))
    × (length l.buffer ≡ 4096) × (length l.out ≡ 438272)
