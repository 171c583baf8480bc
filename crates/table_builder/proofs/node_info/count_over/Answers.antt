use Rattle.node_table.specs.Chains.{count_over}
use Rattle.table_builder.proofs.node_info.count_over.Goals as goal

pub returns-then-is_free : goal.returns-then-is_free
unfolding count_over
returns-then-is_free c =
    simp (count_over, ← c.one_more.ensures, ← c.is_free.ensures, c.if-is_free.true, ← c.chain_count-count.ensures)

pub returns : goal.returns
unfolding count_over
returns c = simp (count_over, ← c.is_free.ensures, c.if-is_free.false, ← c.chain_count-count.ensures)
