use Rattle.term_printer.proofs.output.Laws.{copied}
use Rattle.term_printer.proofs.output.copy_bytes.Goals as goal

pub returns : goal.returns
returns c = copied _ _ _ _ _ _ _ _ _ _ c.min.ensures c.widen.ensures.0 c.min-2.ensures c.write_bytes.ensures
