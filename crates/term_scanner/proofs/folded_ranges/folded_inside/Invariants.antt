use Rattle.std.proofs.Common.{◌≡◌}
use Rattle.scanning.specs.Ranges.{same_folded}
use Rattle.term_scanner.proofs.folded_ranges.folded_inside.Given as goal

abbrev pub invariant-loop-k : goal.invariant-loop-k
invariant-loop-k l = same_folded l.n l.a l.i l.b l.j ≡ same_folded l.k l.a l.i l.b l.j
