use Rattle.pendlist_buffer.proofs.OneTurn.{turn_taken}
use Rattle.pendlist_buffer.proofs.take_turn.Goals as goal

pub returns : goal.returns
returns c = turn_taken _ _ _ c.requires.0 c.bytes_ready-ready.ensures c.run_text-done.ensures
    c.copy_within.ensures.after
