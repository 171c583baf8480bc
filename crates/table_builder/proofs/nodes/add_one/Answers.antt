use Rattle.table_builder.specs.Nodes.{add_one}
use borrow.Author.Tests.{le-leb, lt-leb}
use Rattle.table_builder.proofs.nodes.add_one.Goals as goal

pub returns-then-k-ge-MAX_NODES : goal.returns-then-k-ge-MAX_NODES
unfolding add_one
returns-then-k-ge-MAX_NODES c =
    simp (add_one, le-leb _ _ c.if-k-ge-MAX_NODES.true)

pub returns-then-k-r : goal.returns-then-k-r
unfolding add_one
returns-then-k-r c =
    simp (add_one, le-leb _ _ c.if-k-r.true, lt-leb _ _ c.if-k-ge-MAX_NODES.false)

pub returns : goal.returns
unfolding add_one
returns c =
    simp (add_one, ← c.add_node.ensures, lt-leb _ _ c.if-k-r.false, lt-leb _ _ c.if-k-ge-MAX_NODES.false)
