use Rattle.table_builder.specs.Nodes.{add_two}
use borrow.Author.Tests.{le-leb, lt-leb}
use Rattle.table_builder.proofs.nodes.add_two.Goals as goal

pub returns-then-k-ge-MAX_NODES : goal.returns-then-k-ge-MAX_NODES
unfolding add_two
returns-then-k-ge-MAX_NODES c =
    simp (add_two, le-leb _ _ c.if-k-ge-MAX_NODES.true)

pub returns-then-k-a : goal.returns-then-k-a
unfolding add_two
returns-then-k-a c =
    simp (add_two, le-leb _ _ c.if-k-a.true, lt-leb _ _ c.if-k-ge-MAX_NODES.false)

pub returns-then-k-b : goal.returns-then-k-b
unfolding add_two
returns-then-k-b c =
    simp (add_two, le-leb _ _ c.if-k-b.true, lt-leb _ _ c.if-k-a.false, lt-leb _ _ c.if-k-ge-MAX_NODES.false)

pub returns : goal.returns
unfolding add_two
returns c =
    simp (
      add_two,
      lt-leb _ _ c.if-k-b.false,
      lt-leb _ _ c.if-k-a.false,
      lt-leb _ _ c.if-k-ge-MAX_NODES.false,
    )
    (rw c.leaf-leaf.ensures at c.add_node.ensures)
