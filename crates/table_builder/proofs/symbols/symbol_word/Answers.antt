use Rattle.table_builder.proofs.symbols.Laws.{word_is}
use Rattle.table_builder.proofs.symbols.symbol_word.Goals as goal

pub returns : goal.returns
returns c = word_is _ _ _ c.from.ensures
