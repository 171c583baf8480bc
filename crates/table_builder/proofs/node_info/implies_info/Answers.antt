use Rattle.table_builder.specs.Nodes.{implies_info}
use Rattle.table_builder.proofs.node_info.Laws.{supposed_most, bit_is}
use Rattle.table_builder.proofs.node_info.implies_info.Goals as goal

pub returns : goal.returns
unfolding implies_info
returns c =
    simp (
      implies_info,
      ← c.pack_info.ensures,
      ← c.ruled_members-m.ensures.0,
      ← bit_is _ _ _ (supposed_most _ _ _) c.supposed_goal.ensures c.from-goal.ensures,
      ← c.united_mask-free.ensures.0,
    )
