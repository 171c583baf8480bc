use Rattle.answer_printer.proofs.line_parts.Laws.{number_written}
use Rattle.answer_printer.proofs.line_parts.number_to.Goals as goal

pub returns : goal.returns
returns c = number_written _ _ _ _ _ _ _ c.write_number-to.ensures c.with_position.ensures
