use Rattle.rules.proofs.Runs.{rules_ask}
use Rattle.rules.proofs.rules_ask.Goals as goal

pub returns : goal.returns
returns c =
    rules_ask _ _ _ _ _ _ _ _ _ _ _ _ _ c.read_request-ask.ensures c.run-r.ensures c.report_ask.ensures
