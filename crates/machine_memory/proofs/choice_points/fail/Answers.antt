use Rattle.machine_memory.proofs.choice_points.Laws.{failure_settled}
use Rattle.machine_memory.proofs.choice_points.fail.Goals as goal

pub returns : goal.returns
returns c = failure_settled _ _ c.with_mode.ensures
