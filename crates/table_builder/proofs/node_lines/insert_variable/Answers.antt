use Rattle.table_builder.specs.Nodes.{insert_variable}
use borrow.Author.Tests.{le-leb, lt-leb}
use Rattle.table_builder.proofs.node_lines.insert_variable.Goals as goal

pub returns-then-k-ge-MAX_NODES : goal.returns-then-k-ge-MAX_NODES
unfolding insert_variable
returns-then-k-ge-MAX_NODES c =
    simp (insert_variable, le-leb _ _ c.if-k-ge-MAX_NODES.true)

pub returns : goal.returns
unfolding insert_variable
returns c =
    simp (
      insert_variable,
      ← c.pack_info-info.ensures,
      ← c.only_bit.ensures.0,
      lt-leb _ _ c.if-k-ge-MAX_NODES.false,
    )
    (rw c.leaf.ensures at c.add_node.ensures)
