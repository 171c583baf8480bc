use mathlib.Core.Path.{refl}
use Rattle.line_checking.specs.Sequents.{with_counts}
use Rattle.checker_state.proofs.registers.with_counts.Goals as goal

pub returns : goal.returns
unfolding with_counts
returns c = refl
