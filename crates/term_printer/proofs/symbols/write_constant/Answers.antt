use Rattle.term_printer.proofs.symbols.Laws.{constant_written}
use Rattle.term_printer.proofs.symbols.write_constant.Goals as goal

pub returns : goal.returns
returns c =
    constant_written _ _ _ _ _ _ _ _ _ _ _ _ _ _ c.number_constant-m.ensures c.field.ensures
    c.record_of-number.ensures c.field-2.ensures c.write_symbol-to.ensures
    c.with_position.ensures
