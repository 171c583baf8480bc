use Rattle.instances.proofs.instance_ranges.Laws.{instance_ends, instance_differs}
use Rattle.instances.proofs.instance_ranges.is_instance.Goals as goal

pub returns-in_default : goal.returns-in_default
returns-in_default c = instance_differs _ _ _ _ _ _ _ _ _ c.match_instance.ensures c.in_default.is

pub returns : goal.returns
returns c =
    instance_ends _ _ _ _ _ _ _ _ _ _ c.match_instance.ensures
    c.in-Some.is
