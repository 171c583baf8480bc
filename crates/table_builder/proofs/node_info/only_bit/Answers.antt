use Rattle.table_builder.proofs.node_info.Laws.{only_is, only_below}
use Rattle.table_builder.proofs.node_info.only_bit.Goals as goal

pub returns : goal.returns
returns c = let e = only_is c.args.v c.requires in (e, rw e (only_below c.args.v))
