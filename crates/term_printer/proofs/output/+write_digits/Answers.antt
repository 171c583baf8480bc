use Rattle.term_printer.proofs.output.Laws.{digits_last, digits_none, digits_on}
use Rattle.term_printer.proofs.output.+write_digits.Goals as goal

pub returns-then-f-eq0 : goal.returns-then-f-eq0
returns-then-f-eq0 t c = digits_none _ _ _ _ _ c.if-f-eq0.true

pub returns-then-n-lt10 : goal.returns-then-n-lt10
returns-then-n-lt10 t c =
    digits_last _ _ _ _ _ _ _ c.if-f-eq0.false c.if-n-lt10.true c.digit.ensures
    c.emit.ensures

pub returns : goal.returns
returns t c =
    digits_on _ _ _ _ _ _ _ _ _ c.if-f-eq0.false c.if-n-lt10.false
    c.write_digits-to.ensures c.digit-2.ensures c.emit-2.ensures
