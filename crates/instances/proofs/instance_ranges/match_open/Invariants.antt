use Prim.Native.Nat.{◌-◌, ◌≤◌}
use Rattle.instances.proofs.instance_ranges.OpenNodes.{match_open}
use Rattle.instances.specs.OpenNodes.{match_children}
use lib.ListN.{length}
use mathlib.Core.Path.{◌≡◌}
use Rattle.instances.proofs.instance_ranges.match_open.Given as goal

abbrev pub invariant-loop-n : goal.invariant-loop-n
invariant-loop-n l = (length l.stack ≡ length l.initial.stack) × (l.n ≤ length l.stack) × (l.n ≤ 1024) × (match_children 1023 l.sheet l.t l.text l.w l.instance.frame l.instance.node l.i
    ≡ match_open l.sheet l.t l.text l.w l.instance.frame (1024 - l.n) l.stack l.n l.at)

abbrev pub decreases-loop-n : goal.decreases-loop-n
decreases-loop-n l = length l.text - l.at
