-- The promises of `specs/Promises.antt`, kept. Those of requests W-201 and W-204 are kept in FormerNames and FormerLines.
use Rattle.sheet_format.specs.Promises.{ReadsFormerOrder, SameSheetInBothOrders, OrderInForce, OtherOrderLinesRefused}
use Rattle.sheet_format.proofs.OrderLine.{reads_former_order_lem, same_in_both_orders, order_in_force_lem}
use Rattle.sheet_format.proofs.OtherOrderLines.{other_order_lines}

-- With the line `O latest` in front, bytes are read as they were before, one line lower.
pub reads_former_order : ReadsFormerOrder
reads_former_order = reads_former_order_lem

-- A sheet in the default order is, with that line in front, the same sheet in the former order.
pub same_sheet_in_both_orders : SameSheetInBothOrders
same_sheet_in_both_orders = same_in_both_orders

-- The order is the former one exactly if the sheet begins with that line.
pub order_in_force : OrderInForce
order_in_force = order_in_force_lem

-- An O line elsewhere, or with another word, is refused under 6, after a Q line under 11.
pub other_order_lines_refused : OtherOrderLinesRefused
other_order_lines_refused = other_order_lines
