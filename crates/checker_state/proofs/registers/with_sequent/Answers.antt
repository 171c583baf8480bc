use mathlib.Core.Path.{refl}
use Rattle.line_checking.specs.Sequents.{with_sequent}
use Rattle.checker_state.proofs.registers.with_sequent.Goals as goal

pub returns : goal.returns
unfolding with_sequent
returns c = refl
