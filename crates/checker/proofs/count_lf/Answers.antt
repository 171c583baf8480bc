use Rattle.checker.proofs.LineFeeds.{count_here, count_other, count_end}
use Rattle.checker.proofs.count_lf.Goals as goal
use Rattle.checker.proofs.count_lf.Goals.{then-b-eq10, else-b-eq10}

pub loop-b-preserved : goal.loop-b-preserved
loop-b-preserved c =
    elim c.if-b-eq10.branch [
      | then-b-eq10 w ↦ count_here _ _ _ _ c.loop-b.invariant c.loop-b-test.true w.if-b-eq10.true w.n-is
      | else-b-eq10 w ↦ count_other _ _ _ _ c.loop-b.invariant c.loop-b-test.true w.if-b-eq10.false w.n-is
    ]

pub returns : goal.returns
returns c = count_end _ _ _ c.loop-b.invariant c.loop-b-test.false
