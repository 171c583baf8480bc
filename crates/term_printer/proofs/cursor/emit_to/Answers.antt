use Rattle.term_printer.proofs.cursor.Laws.{byte_written}
use Rattle.term_printer.proofs.cursor.emit_to.Goals as goal

pub returns : goal.returns
returns c = byte_written _ _ _ _ _ _ _ c.emit-to.ensures c.with_position.ensures
