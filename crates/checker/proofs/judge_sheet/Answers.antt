use Rattle.checker.proofs.Judged.{text_judged, sheet_refused}
use Rattle.checker.proofs.judge_sheet.Goals as goal

pub returns-in-Ok : goal.returns-in-Ok
returns-in-Ok c =
    text_judged _ _ _ _ _ _ _ _ _ _ _ c.read_sheet.ensures c.in-Ok.is c.requires.3
    c.judge_text-line.ensures c.verdict_at.ensures

pub returns-in-Err : goal.returns-in-Err
returns-in-Err c =
    sheet_refused _ _ _ _ _ _ c.read_sheet.ensures c.in-Err.is
