use Rattle.table_builder.specs.Nodes.{add_node}
use borrow.Author.Tests.{eq-eqb, ne_eqb}
use Rattle.table_builder.proofs.nodes.add_node.Goals as goal

pub returns-then-r-eq0 : goal.returns-then-r-eq0
unfolding add_node
returns-then-r-eq0 c =
    simp (add_node, eq-eqb _ _ c.if-r-eq0.true)

pub returns : goal.returns
unfolding add_node
returns c =
    simp (add_node, ← c.write_node.ensures, ne_eqb _ _ c.if-r-eq0.false)
