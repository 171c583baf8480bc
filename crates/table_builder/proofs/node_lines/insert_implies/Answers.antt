use Rattle.table_builder.specs.Nodes.{insert_implies}
use Rattle.table_builder.proofs.node_lines.insert_implies.Goals as goal

pub returns : goal.returns
unfolding insert_implies
returns c =
    simp (insert_implies, ← c.add_two.ensures, ← c.implies_info-info.ensures)
