use Rattle.term_scanner.specs.Steps.{steps_left, Reaches}
use Rattle.term_scanner.proofs.scan_within.Given as goal

abbrev pub invariant-loop-s : goal.invariant-loop-s
invariant-loop-s l = Reaches l.rank l.sheet l.t l.symbols l.text l.initial.lent l.initial.s l.lent l.s

abbrev pub decreases-loop-s : goal.decreases-loop-s
decreases-loop-s l = steps_left l.text l.s
