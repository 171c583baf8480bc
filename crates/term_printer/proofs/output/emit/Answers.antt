use Rattle.term_printer.proofs.output.Laws.{emit_past, emitted}
use Rattle.term_printer.proofs.output.emit.Goals as goal

pub returns-then-limit-at : goal.returns-then-limit-at
returns-then-limit-at c = emit_past _ _ _ _ c.if-limit-at.true

pub returns : goal.returns
returns c =
    emitted _ _ _ _ _ _ _ c.if-limit-at.false c.widen.ensures.0 c.put_item.ensures
    c.increment.ensures
