use Rattle.std.proofs.Common.{◌∙◌, sym, arith}
use Rattle.term_scanner.proofs.blocks.Laws.{passes_start, passes_block}
use Rattle.term_scanner.proofs.blocks.skip_blocks.Goals as goal

pub loop-block-init : goal.loop-block-init
loop-block-init c = (passes_start _ _ _ _ _, omega arith)

pub block_has-requires : goal.block_has-requires
block_has-requires c = omega (arith, c.loop-block.invariant.1, c.loop-block-test.true, c.saturating_sub-blocks.ensures, c.requires)

pub returns-then-block_has : goal.returns-then-block_has
returns-then-block_has c = c.loop-block.invariant.0

pub loop-block-preserved : goal.loop-block-preserved
loop-block-preserved c = (
  passes_block _ _ _ _ _ _ c.loop-block.invariant.0
      (omega (arith, c.loop-block.invariant.1, c.loop-block-test.true, c.saturating_sub-blocks.ensures))
      (sym c.block_has.ensures ∙ c.if-block_has.false),
  omega arith,
)

pub returns : goal.returns
returns c = c.loop-block.invariant.0
