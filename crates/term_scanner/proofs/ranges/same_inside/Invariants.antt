use Rattle.std.proofs.Common.{◌≡◌}
use Rattle.scanning.specs.Ranges.{same_range}
use Rattle.term_scanner.proofs.ranges.same_inside.Given as goal

abbrev pub invariant-loop-k : goal.invariant-loop-k
invariant-loop-k l = l.same ≡ same_range l.k l.a l.i l.b l.j
