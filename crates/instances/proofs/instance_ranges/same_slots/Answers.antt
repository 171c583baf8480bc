use Rattle.term_scanner.proofs.folded_ranges.Laws.{range_equal}
use Rattle.instances.proofs.instance_ranges.Laws.{slots_same, slots_other}
use Rattle.scanning.specs.Instances.{same_slots}
use borrow.Author.Tests.{eq-eqb}
use Rattle.instances.proofs.instance_ranges.same_slots.Goals as goal

pub returns-then-a-b : goal.returns-then-a-b
unfolding same_slots
returns-then-a-b c = rw (eq-eqb _ _ c.if-a-b.true)

pub returns-then-same_range : goal.returns-then-same_range
returns-then-same_range c =
    slots_same _ _ _ _ _ _ _ _ c.if-a-b.false c.size-n.ensures
    c.size.ensures c.if-n-size.true (range_equal _ _ _ _ _ _ c.same_range.ensures c.if-same_range.true)

pub returns-then-n-size : goal.returns-then-n-size
returns-then-n-size c =
    slots_same _ _ _ _ _ _ _ _ c.if-a-b.false c.size-n.ensures
    c.size.ensures c.if-n-size.true c.same_folded.ensures

pub returns : goal.returns
returns c =
    slots_other _ _ _ _ _ _ _ c.if-a-b.false c.size-n.ensures c.size.ensures
    c.if-n-size.false
