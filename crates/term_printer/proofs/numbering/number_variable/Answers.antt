use Rattle.term_printer.proofs.numbering.Laws.{variable_had, variable_numbered}
use Rattle.term_printer.proofs.numbering.number_variable.Goals as goal

pub returns-then-cell_of-ne0 : goal.returns-then-cell_of-ne0
returns-then-cell_of-ne0 c = variable_had _ _ _ _ c.cell_of.ensures c.if-cell_of-ne0.true

pub returns : goal.returns
returns c =
    variable_numbered _ _ _ _ _ _ _ _ _ c.cell_of.ensures c.if-cell_of-ne0.false c.increment-count.ensures
    c.widen.ensures.0 c.truncate.ensures c.put_cell.ensures
    c.with_variables.ensures
