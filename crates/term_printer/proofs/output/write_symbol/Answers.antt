use Rattle.term_printer.proofs.output.Laws.{symbol_of}
use Rattle.term_printer.proofs.output.write_symbol.Goals as goal

pub returns : goal.returns
returns c =
    symbol_of _ _ _ _ _ _ _ _ _ _ _ _ _ c.emit-to.ensures c.write_number-to.ensures c.emit-to-2.ensures
    c.write_number.ensures
