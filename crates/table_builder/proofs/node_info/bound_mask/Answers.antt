use borrow.Author.Rules.{rules}
use Rattle.table_builder.proofs.node_info.bound_mask.Goals as goal

pub returns : goal.returns
returns c = (simp (← c.mask.ensures.0, ← c.without_bit.ensures.0), search rules)
