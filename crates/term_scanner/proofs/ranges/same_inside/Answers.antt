use Rattle.term_scanner.proofs.ranges.Laws.{range_all, range_more, range_none}
use Rattle.term_scanner.proofs.ranges.same_inside.Goals as goal

pub loop-k-init : goal.loop-k-init
loop-k-init c = range_none _ _ _ _

pub loop-k-preserved : goal.loop-k-preserved
loop-k-preserved c = range_more _ _ _ _ _ _ c.loop-k.invariant

pub returns : goal.returns
returns c = range_all _ _ _ _ _ _ _ c.loop-k.auto.k-end c.loop-k-test.false c.loop-k.invariant
