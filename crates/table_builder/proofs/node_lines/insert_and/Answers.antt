use Rattle.table_builder.specs.Nodes.{insert_and}
use Rattle.table_builder.proofs.node_lines.insert_and.Goals as goal

pub returns : goal.returns
unfolding insert_and
returns c =
    simp (insert_and, ← c.add_two.ensures, ← c.and_info-info.ensures)
