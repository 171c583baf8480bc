use Rattle.engine.proofs.Answering.{sheet_answers, refusal_answers}
use Rattle.engine.proofs.answer_sheet.Goals as goal

pub returns-in-Ok : goal.returns-in-Ok
returns-in-Ok c =
    sheet_answers _ _ _ _ _ _ _ _ _ _ _ c.read_sheet.ensures c.in-Ok.is c.requires.2 c.requires.3
    c.requires.4 c.search.ensures

pub returns-in-Err : goal.returns-in-Err
returns-in-Err c =
    refusal_answers _ _ _ _ _ _ _ _ c.read_sheet.ensures c.in-Err.is c.from.ensures
