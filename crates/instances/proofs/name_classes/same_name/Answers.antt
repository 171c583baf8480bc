use Rattle.instances.proofs.name_classes.Laws.{name_slots, name_instance}
use Rattle.instances.proofs.name_classes.same_name.Goals as goal

pub returns-then-j-lt-FIRST_APPLICATION : goal.returns-then-j-lt-FIRST_APPLICATION
returns-then-j-lt-FIRST_APPLICATION c =
    name_slots _ _ _ _ _ _ _ _ _ _ _ _ _ c.range_of-range.ensures.0 c.range_of-range.ensures.1
    c.if-j-lt-FIRST_APPLICATION.true c.range_of-other.ensures.0 c.range_of-other.ensures.1 c.same_slots.ensures

pub returns : goal.returns
returns c =
    name_instance _ _ _ _ _ _ _ _ _ _ _ _ c.range_of-range.ensures.0 c.range_of-range.ensures.1
    c.if-j-lt-FIRST_APPLICATION.false c.side_frame.ensures c.is_instance.ensures
