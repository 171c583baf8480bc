use Rattle.machine_memory.proofs.Settling.{settled_kept}
use Rattle.machine_memory.proofs.choice_points.Laws.{settled_here}
use Rattle.machine_memory.proofs.choice_points.settle.Goals as goal

pub returns-then-r-eq-FAILED : goal.returns-then-r-eq-FAILED
returns-then-r-eq-FAILED c =
    settled_here _ _ _ _ c.if-r-eq-FAILED.true c.failed.ensures

pub returns : goal.returns
returns c = settled_kept _ _ c.if-r-eq-FAILED.false
