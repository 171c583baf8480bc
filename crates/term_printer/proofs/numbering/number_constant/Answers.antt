use Rattle.term_printer.proofs.numbering.Laws.{constant_had, constant_numbered}
use Rattle.term_printer.proofs.numbering.number_constant.Goals as goal

pub returns-then-constant_mark-ne0 : goal.returns-then-constant_mark-ne0
returns-then-constant_mark-ne0 c = constant_had _ _ _ _ _ c.constant_mark.ensures c.if-constant_mark-ne0.true

pub returns : goal.returns
returns c =
    constant_numbered _ _ _ _ _ _ _ _ _ c.constant_mark.ensures c.if-constant_mark-ne0.false
    c.clear_at_first.ensures c.increment-count.ensures c.put_field.ensures
    c.with_constants.ensures
