use Prim.Native.Nat.{◌-◌}
use mathlib.Core.Path.{◌≡◌}
use Rattle.scanning.specs.BriefComparisons.{brief_children, brief_elements}
use Rattle.instances.proofs.brief_comparisons.+brief_elements.Given as goal

abbrev pub invariant-loop-k : goal.invariant-loop-k
invariant-loop-k l =
    brief_elements l.rank l.sheet l.t l.text l.w l.pair.left l.pair.right l.pair.first l.pair.second
    ≡ brief_children (brief_elements (l.rank - 1) l.sheet l.t l.text l.w l.pair.left l.pair.right) (l.n - l.k) l.t
    l.pair.first l.pair.second l.k

abbrev pub decreases-brief_elements : goal.decreases-brief_elements
decreases-brief_elements l = l.rank
