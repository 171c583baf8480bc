use Rattle.engine_spec.specs.Handed.{asked}
use Rattle.rules.proofs.Runs.{rules_run}
use Rattle.rules.proofs.rules_run.Goals as goal

pub returns : goal.returns
unfolding asked
returns c =
    rules_run _ _ _ _ _ _ _ _ _ _ _ _ c.run-r.ensures c.report_run.ensures
