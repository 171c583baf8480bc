use mathlib.Core.Path.{refl}
use Rattle.line_checking.specs.Sequents.{with_binding}
use Rattle.checker_state.proofs.registers.with_binding.Goals as goal

pub returns : goal.returns
unfolding with_binding
returns c = refl
