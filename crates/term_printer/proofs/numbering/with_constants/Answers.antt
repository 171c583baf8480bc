use Rattle.printing.specs.Numbering.{with_constants}
use mathlib.Core.Path.{refl}
use Rattle.term_printer.proofs.numbering.with_constants.Goals as goal

pub returns : goal.returns
unfolding with_constants
returns c = refl
