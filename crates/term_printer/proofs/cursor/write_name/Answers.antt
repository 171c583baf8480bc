use Rattle.term_printer.proofs.cursor.Laws.{name_written}
use Rattle.term_printer.proofs.cursor.write_name.Goals as goal

pub returns : goal.returns
returns c =
    name_written _ _ _ _ _ _ _ _ _ _ _ _ c.name_start.ensures c.widen-start.ensures.0
    c.name_length.ensures c.copy_bytes-to.ensures c.with_position.ensures
