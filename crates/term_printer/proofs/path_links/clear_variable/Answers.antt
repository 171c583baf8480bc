use Rattle.term_printer.proofs.path_links.Laws.{cell_cleared, cell_kept}
use Rattle.term_printer.proofs.path_links.clear_variable.Goals as goal

pub returns-then-tag_of-ne0 : goal.returns-then-tag_of-ne0
returns-then-tag_of-ne0 c = cell_kept _ _ _ _ c.cell_of.ensures c.tag_of.ensures c.if-tag_of-ne0.true

pub returns : goal.returns
returns c =
    cell_cleared _ _ _ _ _ c.cell_of.ensures c.tag_of.ensures c.if-tag_of-ne0.false
    c.put_cell.ensures
