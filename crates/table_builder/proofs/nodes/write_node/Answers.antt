use Rattle.table_builder.proofs.nodes.Laws.{node_puts}
use Rattle.table_builder.proofs.nodes.write_node.Goals as goal

pub returns : goal.returns
returns c =
    node_puts _ _ _ _ _ _ _ _ _ _ _ c.widen.ensures.0 c.put.ensures c.put-2.ensures c.put-3.ensures c.put-4.ensures
    c.put-5.ensures c.put-6.ensures c.put-7.ensures
