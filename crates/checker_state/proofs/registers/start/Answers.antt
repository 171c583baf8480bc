use mathlib.Core.Path.{refl}
use Rattle.line_checking.specs.Sequents.{start}
use Rattle.checker_state.proofs.registers.start.Goals as goal

pub returns : goal.returns
unfolding start
returns c = refl
