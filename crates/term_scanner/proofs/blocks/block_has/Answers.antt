use Rattle.term_scanner.proofs.blocks.Laws.{has_none, has_more, has_all}
use Rattle.term_scanner.proofs.blocks.block_has.Goals as goal

pub loop-k-init : goal.loop-k-init
loop-k-init c = has_none _ _ _ _

pub loop-k-preserved : goal.loop-k-preserved
loop-k-preserved c = has_more _ _ _ _ _ _ c.loop-k.invariant

pub returns : goal.returns
returns c = has_all _ _ _ 16 _ _ _ c.loop-k.auto.k-end c.loop-k-test.false c.loop-k.invariant
