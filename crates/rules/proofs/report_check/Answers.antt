use Rattle.rules.proofs.Checks.{check_reported}
use Rattle.rules.proofs.report_check.Goals as goal

pub returns : goal.returns
returns c = check_reported _ _ _ _ _ _ c.from-code.ensures c.line.ensures c.refusal_number.ensures c.put_front.ensures
