use Rattle.table_builder.specs.Nodes.{or_info}
use Rattle.table_builder.proofs.node_info.Laws.{both_most, bit_is}
use Rattle.table_builder.proofs.node_info.or_info.Goals as goal

pub returns : goal.returns
unfolding or_info
returns c =
    simp (or_info, ← c.pack_info.ensures, ← bit_is _ _ _ (both_most _ _ _) c.both_goals.ensures c.from-goal.ensures, ← c.united_mask-free.ensures.0)
