use Rattle.checker_state.proofs.registers.Laws.{bound_next, bound_all}
use Rattle.checker_state.proofs.registers.bound_from.Goals as goal

pub returns-then-v-lt-NAMES : goal.returns-then-v-lt-NAMES
returns-then-v-lt-NAMES c = bound_next _ _ _ _ _ c.if-v-lt-NAMES.true c.with_binding.ensures

pub returns : goal.returns
returns c = bound_all _ _ _ _ _ c.if-v-lt-NAMES.false c.with_sequent.ensures
