use Rattle.answer_printer.proofs.line_parts.Laws.{bytes_written}
use Rattle.answer_printer.proofs.line_parts.bytes_to.Goals as goal

pub returns : goal.returns
returns c = bytes_written _ _ _ _ _ _ _ c.write_bytes-to.ensures c.with_position.ensures
