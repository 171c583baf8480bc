use Rattle.table_builder.specs.Nodes.{insert_forall}
use Rattle.table_builder.proofs.node_lines.insert_forall.Goals as goal

pub returns : goal.returns
unfolding insert_forall
returns c =
    simp (
      insert_forall,
      ← c.add_one.ensures,
      ← c.forall_info-info.ensures,
      ← c.count_over-fourth.ensures,
      ← c.names_over-third.ensures,
      ← c.below-second.ensures,
    )
