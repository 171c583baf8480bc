-- Request W-207: the order in force, written into the table: the code's function on lists.
use Rattle.std.specs.Prelude.{ℕ, List, set}
use Rattle.node_table.specs.Layout.{order_at}

-- The table with that number of an order: 0 for the default, 1 for `O latest` (request W-207).
unfoldable pub put_order : List ℕ → ℕ → List ℕ
put_order t number = set t order_at number
