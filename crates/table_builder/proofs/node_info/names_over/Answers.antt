use Rattle.node_table.specs.Chains.{names_over}
use Rattle.table_builder.proofs.node_info.names_over.Goals as goal

pub returns-then-is_free : goal.returns-then-is_free
unfolding names_over
returns-then-is_free c =
    simp (names_over, ← c.name_before.ensures, ← c.is_free.ensures, c.if-is_free.true, ← c.chain_names-names.ensures)

pub returns : goal.returns
unfolding names_over
returns c = simp (names_over, ← c.is_free.ensures, c.if-is_free.false, ← c.chain_names-names.ensures)
