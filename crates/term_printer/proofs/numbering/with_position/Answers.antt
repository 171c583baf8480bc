use Rattle.printing.specs.Numbering.{with_position}
use mathlib.Core.Path.{refl}
use Rattle.term_printer.proofs.numbering.with_position.Goals as goal

pub returns : goal.returns
unfolding with_position
returns c = refl
