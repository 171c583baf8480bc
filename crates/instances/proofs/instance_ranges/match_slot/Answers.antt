use Rattle.instances.proofs.instance_ranges.Laws.{slot_matches}
use Rattle.instances.proofs.instance_ranges.match_slot.Goals as goal

pub returns : goal.returns
returns c =
    slot_matches _ _ _ _ _ _ _ _ _ _ _ c.slot_start.ensures c.widen-s.ensures.0
    c.slot_end.ensures c.widen-e.ensures.0 c.saturating_sub.ensures
    c.match_range.ensures
