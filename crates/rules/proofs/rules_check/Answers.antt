use Rattle.rules.proofs.Checks.{rules_check}
use Rattle.rules.proofs.rules_check.Goals as goal

pub returns : goal.returns
returns c =
    rules_check _ _ _ _ _ _ _ _ _ _ c.check-v.ensures c.report_check.ensures
