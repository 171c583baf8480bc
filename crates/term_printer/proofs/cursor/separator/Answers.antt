use Rattle.term_printer.proofs.cursor.Laws.{separator_first, separator_next}
use Rattle.term_printer.proofs.cursor.separator.Goals as goal

pub returns-then-j-eq0 : goal.returns-then-j-eq0
returns-then-j-eq0 c = separator_first _ c.if-j-eq0.true

pub returns : goal.returns
returns c = separator_next _ c.if-j-eq0.false
