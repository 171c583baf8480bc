use Rattle.checker_state.proofs.registers.Laws.{bound_made}
use Rattle.checker_state.proofs.registers.bound.Goals as goal

pub returns : goal.returns
returns c = bound_made _ _ _ _ _ _ _ _ c.mask.ensures.0 c.free_from.ensures c.bound_from.ensures
