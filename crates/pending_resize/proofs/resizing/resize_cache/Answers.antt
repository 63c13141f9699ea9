use Rattle.pending_resize.proofs.Resized.{resizes_to}
use Rattle.pending_resize.proofs.resizing.resize_cache.Goals as goal

pub returns : goal.returns
returns c = resizes_to _ _ _ c.requires.header_value c.requires.accepted _ _ _ c.shrink-left.ensures _
    c.handed_count-handed.ensures _ _ c.raised.ensures c.write.ensures
