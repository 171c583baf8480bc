use Rattle.term_printer.proofs.output.Laws.{number_of}
use Rattle.term_printer.proofs.output.write_number.Goals as goal

pub returns : goal.returns
returns c =
    number_of _ _ _ _ _ _ c.widen.ensures.0 c.write_digits.ensures
