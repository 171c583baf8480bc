use Rattle.table_builder.specs.Nodes.{insert_true}
use borrow.Author.Tests.{le-leb, lt-leb}
use Rattle.table_builder.proofs.node_lines.insert_true.Goals as goal

pub returns-then-k-ge-MAX_NODES : goal.returns-then-k-ge-MAX_NODES
unfolding insert_true
returns-then-k-ge-MAX_NODES c =
    simp (insert_true, le-leb _ _ c.if-k-ge-MAX_NODES.true)

pub returns : goal.returns
unfolding insert_true
returns c =
    simp (insert_true, lt-leb _ _ c.if-k-ge-MAX_NODES.false)
    (rw c.leaf.ensures at c.add_node.ensures)
