use Rattle.answer_printer.proofs.append_proof.Goals as goal

pub returns : goal.returns
returns c = c.append_text.ensures
