use Rattle.answer_printer.proofs.Laws.{text_appended}
use Rattle.answer_printer.proofs.append_text.Goals as goal

pub returns : goal.returns
returns c =
    text_appended _ _ _ _ _ _ _ _ _ _ _ _ _ _ c.prepare-path.ensures c.proof_pass-g.ensures
