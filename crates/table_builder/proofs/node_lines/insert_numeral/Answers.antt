use Rattle.table_builder.specs.Nodes.{insert_numeral}
use borrow.Author.Tests.{le-leb, lt-leb}
use Rattle.table_builder.proofs.node_lines.insert_numeral.Goals as goal

pub returns-then-k-ge-MAX_NODES : goal.returns-then-k-ge-MAX_NODES
unfolding insert_numeral
returns-then-k-ge-MAX_NODES c =
    simp (insert_numeral, le-leb _ _ c.if-k-ge-MAX_NODES.true)

pub returns : goal.returns
unfolding insert_numeral
returns c =
    simp (
      insert_numeral,
      ← c.pack_info-info.ensures,
      lt-leb _ _ c.if-k-ge-MAX_NODES.false,
    )
    (rw c.leaf.ensures at c.add_node.ensures)
