use Rattle.std.proofs.Common.{ap, ◌∙◌}
use Rattle.std.specs.Result.{result_unwrap_or}
use Rattle.runner_output.proofs.Arguments.{asked_number}
use Rattle.runner_output.proofs.proofs_asked.Goals as goal

pub returns : goal.returns
returns c = c.unwrap_or.ensures ∙ ap (λ r. result_unwrap_or r 0) c.one_number.ensures ∙ asked_number _
