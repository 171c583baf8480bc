use Rattle.term_printer.proofs.symbols.Laws.{variable_written}
use Rattle.term_printer.proofs.symbols.write_variable.Goals as goal

pub returns : goal.returns
returns c =
    variable_written _ _ _ _ _ _ _ _ _ _ _ _ _ c.number_variable-m.ensures c.cell_of.ensures
    c.record_of-number.ensures c.level_of.ensures c.write_symbol-to.ensures
    c.with_position.ensures
