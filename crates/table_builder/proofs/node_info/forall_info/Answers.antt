use Rattle.table_builder.specs.Nodes.{forall_info}
use Rattle.table_builder.proofs.node_info.forall_info.Goals as goal

pub returns : goal.returns
unfolding forall_info
returns c =
    simp (
      forall_info,
      ← c.pack_info.ensures,
      ← c.members.ensures.0,
      ← c.goal_bit.ensures.0,
      ← c.bound_mask-free.ensures.0,
    )
