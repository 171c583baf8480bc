use Rattle.table_builder.specs.Nodes.{insert_exists}
use Rattle.table_builder.proofs.node_lines.insert_exists.Goals as goal

pub returns : goal.returns
unfolding insert_exists
returns c =
    simp (insert_exists, ← c.exists_info-info.ensures)
    (rw c.leaf-leaf.ensures at c.add_one.ensures)
