use Rattle.instances.proofs.instance_ranges.Laws.{name_matches}
use Rattle.instances.proofs.instance_ranges.match_name.Goals as goal

pub returns : goal.returns
returns c =
    name_matches _ _ _ _ _ _ _ _ _ c.name_size-n.ensures.0 c.name_start.ensures
    c.widen.ensures.0 c.match_range.ensures
