use Rattle.table_builder.proofs.symbols.Laws.{symbol_puts}
use Rattle.table_builder.proofs.symbols.put_symbol.Goals as goal

pub returns : goal.returns
returns c = symbol_puts _ _ _ _ _ _ _ _ _ c.widen-at.ensures.0 c.put.ensures c.put-2.ensures c.put-3.ensures
