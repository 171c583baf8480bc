use Rattle.instances.proofs.frames.Laws.{bind_made}
use Rattle.instances.proofs.frames.bind_frame.Goals as goal

pub returns : goal.returns
returns c =
    bind_made _ _ _ _ _ _ _ _ c.copy_ranges.ensures c.put_range.ensures
