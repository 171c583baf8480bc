use Rattle.term_printer.proofs.Laws.{term_ranked}
use Rattle.term_printer.proofs.cursor.States.{increment_back}
use Rattle.term_printer.proofs.term_to.Goals as goal

pub write_term-requires : goal.write_term-requires
write_term-requires c = (c.requires, increment_back _ _ c.requires c.increment.ensures)

pub returns : goal.returns
returns c = term_ranked _ _ _ _ _ _ _ _ _ _ c.increment.ensures c.write_term.ensures.0
