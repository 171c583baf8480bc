use Rattle.table_builder.proofs.node_info.Laws.{without_first, without_more}
use borrow.Author.Rules.{rules}
use Rattle.table_builder.proofs.node_info.+without_bit.Goals as goal

pub returns-then-v-eq0 : goal.returns-then-v-eq0
returns-then-v-eq0 t c = (without_first _ _ c.if-v-eq0.true, search rules)

pub returns : goal.returns
returns t c = (without_more _ _ _ c.if-v-eq0.false c.without_bit.ensures.0, search rules)
