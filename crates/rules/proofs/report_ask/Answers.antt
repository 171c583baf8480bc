use Rattle.engine_spec.specs.Handed.{handed}
use Rattle.rules.specs.RulesRun.{run_numbers}
use Rattle.rules.specs.RulesAsk.{ask_numbers}
use Rattle.rules.proofs.Results.{and_put}
use Rattle.rules.proofs.report_ask.Goals as goal

pub returns : goal.returns
unfolding ask_numbers run_numbers handed
returns c =
    (c.report_run-outcome.ensures.0, and_put _ _ _ _ _ c.report_run-outcome.ensures.1 c.put.ensures)
