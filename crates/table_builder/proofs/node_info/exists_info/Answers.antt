use Rattle.table_builder.specs.Nodes.{exists_info}
use Rattle.table_builder.proofs.node_info.exists_info.Goals as goal

pub returns : goal.returns
unfolding exists_info
returns c =
    simp (exists_info, ← c.pack_info.ensures, ← c.goal_bit.ensures.0, ← c.bound_mask-free.ensures.0)
