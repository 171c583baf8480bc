use Rattle.term_scanner.specs.Steps.{found}
use Rattle.term_scanner.proofs.Advancing.{found_none}
use Rattle.term_scanner.proofs.found.Goals as goal

pub returns-in-Ended : goal.returns-in-Ended
unfolding found
returns-in-Ended c = rw c.in-Ended.is

pub returns-in_default : goal.returns-in_default
returns-in_default c = found_none _ c.in_default.not-Ended
