use Rattle.engine.proofs.report.Laws.{report_proved, report_no, report_spent}
use Rattle.engine.proofs.report.report_outcome.Goals as goal

pub returns-then-r-eq-PROVED : goal.returns-then-r-eq-PROVED
returns-then-r-eq-PROVED c =
    report_proved _ _ _ _ _ _ _ _ _ _ _ c.if-r-eq-PROVED.true c.write_proof-n.ensures c.fitting_run.ensures

pub returns-then-r-eq-NO : goal.returns-then-r-eq-NO
returns-then-r-eq-NO c =
    report_no _ _ _ _ _ _ _ _ _ _ c.if-r-eq-PROVED.false c.if-r-eq-NO.true c.write_no-n.ensures
    c.fitting_run-then-r-eq-NO.ensures

pub returns : goal.returns
returns c =
    report_spent _ _ _ _ _ _ _ _ _ _ c.if-r-eq-PROVED.false c.if-r-eq-NO.false c.write_spent-n.ensures
    c.fitting_run-2.ensures
