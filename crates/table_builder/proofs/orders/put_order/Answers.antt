use Rattle.table_builder.specs.Orders.{put_order}
use borrow.Author.Rules.{rules}
use Rattle.table_builder.proofs.orders.put_order.Goals as goal

pub returns : goal.returns
unfolding put_order
returns c = search rules
