use Rattle.checker.proofs.LineFeeds.{Counted}
use Rattle.checker.proofs.count_lf.Given as goal

abbrev pub invariant-loop-b : goal.invariant-loop-b
invariant-loop-b l = Counted l.text l.n l.b-index
