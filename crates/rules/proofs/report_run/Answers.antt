use Rattle.rules.proofs.Runs.{run_reported}
use Rattle.rules.proofs.report_run.Goals as goal

pub returns : goal.returns
returns c =
    run_reported _ _ _ _ _ _ c.from-code.ensures c.refusal_number-number.ensures c.refusal_line-line.ensures c.put_front.ensures
