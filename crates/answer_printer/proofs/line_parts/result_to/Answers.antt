use Rattle.answer_printer.proofs.line_parts.Laws.{result_written}
use Rattle.answer_printer.proofs.line_parts.result_to.Goals as goal

pub returns : goal.returns
returns c =
    λ m. result_written _ _ _ _ _ _ _ (c.bytes_to-q.ensures m) (c.number_to-q.ensures m)
    (c.emit_to.ensures m)
