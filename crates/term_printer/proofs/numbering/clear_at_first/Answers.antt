use Rattle.term_printer.proofs.numbering.Laws.{first_cleared, later_kept}
use Rattle.term_printer.proofs.numbering.clear_at_first.Goals as goal

pub returns-then-n-ne0 : goal.returns-then-n-ne0
returns-then-n-ne0 c = later_kept _ _ _ c.if-n-ne0.true

pub returns : goal.returns
returns c =
    first_cleared _ _ _ _ c.if-n-ne0.false c.clear_constants.ensures
