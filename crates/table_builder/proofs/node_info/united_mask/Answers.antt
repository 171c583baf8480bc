use lib.Bits.{or_lt}
use Rattle.table_builder.specs.Nodes.{united_mask}
use Rattle.table_builder.proofs.node_info.united_mask.Goals as goal

pub returns : goal.returns
unfolding united_mask
returns c = (
  simp (united_mask, ← c.mask-2.ensures.0, ← c.mask.ensures.0),
  or_lt 8 _ _ c.mask.ensures.1 c.mask-2.ensures.1,
)
