use Rattle.answer_printer.proofs.Laws.{links_prepared}
use Rattle.answer_printer.proofs.prepare.Goals as goal

pub returns : goal.returns
returns c = links_prepared _ _ _ _ c.link_path.ensures
