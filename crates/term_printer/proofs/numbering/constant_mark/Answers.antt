use Rattle.term_printer.proofs.numbering.Laws.{mark_none, mark_read}
use Rattle.term_printer.proofs.numbering.constant_mark.Goals as goal

pub returns-then-n-eq0 : goal.returns-then-n-eq0
returns-then-n-eq0 c = mark_none _ _ _ c.if-n-eq0.true

pub returns : goal.returns
returns c = mark_read _ _ _ _ c.if-n-eq0.false c.field.ensures
