use Rattle.instances.proofs.name_classes.Laws.{name_start_lem, name_end_lem}
use Rattle.instances.proofs.name_classes.range_of.Goals as goal

pub returns : goal.returns
returns c = (
  name_start_lem _ _ _ _ _ _ _ c.side_frame-frame.ensures c.slot_start.ensures c.widen.ensures.0,
  name_end_lem _ _ _ _ _ _ _ c.side_frame-frame.ensures c.slot_end.ensures c.widen-2.ensures.0,
)
