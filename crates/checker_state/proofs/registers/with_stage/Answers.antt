use mathlib.Core.Path.{refl}
use Rattle.line_checking.specs.Sequents.{with_stage}
use Rattle.checker_state.proofs.registers.with_stage.Goals as goal

pub returns : goal.returns
unfolding with_stage
returns c = refl
