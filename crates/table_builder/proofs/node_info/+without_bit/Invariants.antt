use Rattle.table_builder.proofs.node_info.+without_bit.Given as goal

abbrev pub decreases-without_bit : goal.decreases-without_bit
decreases-without_bit l = l.v
