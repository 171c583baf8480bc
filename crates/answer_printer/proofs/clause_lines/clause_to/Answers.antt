use Rattle.sheet_format.specs.Bytes.{ascii}
use Rattle.answer_printer.proofs.clause_lines.Laws.{clause_written}
use Rattle.answer_printer.proofs.clause_lines.clause_to.Goals as goal

pub returns : goal.returns
unfolding ascii
returns c =
    clause_written _ _ _ _ _ _ _ _ _ _ _ _ _ _ _ _ c.field-place.ensures c.field-count.ensures c.field.ensures
    c.widen-first.ensures.0 (c.bytes_to-q.ensures _) (c.number_to-q.ensures _)
    c.prefix_to-q.ensures (c.emit_to.ensures _)
