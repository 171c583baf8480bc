use Rattle.table_builder.specs.Nodes.{and_info}
use Rattle.table_builder.proofs.node_info.Laws.{both_most, bit_is}
use Rattle.table_builder.proofs.node_info.and_info.Goals as goal

pub returns : goal.returns
unfolding and_info
returns c =
    simp (
      and_info,
      ← c.pack_info.ensures,
      ← c.sum_members-m.ensures.0,
      ← c.members-2.ensures.0,
      ← c.members.ensures.0,
      ← bit_is _ _ _ (both_most _ _ _) c.both_goals.ensures c.from-goal.ensures,
      ← c.united_mask-free.ensures.0,
    )
