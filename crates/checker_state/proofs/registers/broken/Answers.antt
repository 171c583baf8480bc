use Rattle.checker_state.proofs.registers.Laws.{line_wrong}
use Rattle.checker_state.proofs.registers.broken.Goals as goal

pub returns : goal.returns
returns c = line_wrong _ _ c.with_stage.ensures
