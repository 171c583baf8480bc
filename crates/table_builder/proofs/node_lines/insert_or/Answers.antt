use Rattle.table_builder.specs.Nodes.{insert_or}
use Rattle.table_builder.proofs.node_lines.insert_or.Goals as goal

pub returns : goal.returns
unfolding insert_or
returns c =
    simp (insert_or, ← c.add_two.ensures, ← c.or_info-info.ensures)
