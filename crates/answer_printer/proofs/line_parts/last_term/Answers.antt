use Rattle.answer_printer.proofs.line_parts.Laws.{line_ended}
use Rattle.answer_printer.proofs.line_parts.last_term.Goals as goal

pub returns : goal.returns
returns c =
    line_ended _ _ _ _ _ _ _ _ c.term_to-q.ensures
    (c.emit_to.ensures _)
