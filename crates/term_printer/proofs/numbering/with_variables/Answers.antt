use Rattle.printing.specs.Numbering.{with_variables}
use mathlib.Core.Path.{refl}
use Rattle.term_printer.proofs.numbering.with_variables.Goals as goal

pub returns : goal.returns
unfolding with_variables
returns c = refl
