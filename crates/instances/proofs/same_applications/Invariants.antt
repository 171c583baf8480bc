use Prim.Native.Nat.{◌-◌, ◌/◌, ◌%◌, ◌≤◌}
use Rattle.instances.proofs.OpenPairs.{same_open, turns_left}
use Rattle.instances.specs.OpenPairs.{depth_limit, same_applications, Elements}
use lib.ListN.{length}
use mathlib.Core.Path.{◌≡◌}
use Rattle.instances.proofs.same_applications.Given as goal

abbrev pub invariant-loop-n : goal.invariant-loop-n
invariant-loop-n l = (length l.stack ≡ 2050) × (l.n ≤ 2050) × (length l.c ≡ length l.initial.c) × Elements l.c
    × (same_applications l.sheet l.t l.text l.w l.pair.left l.pair.right l.initial.c (l.level / 8 / 4096) (l.level / 8 % 4096)
    ≡ same_open l.sheet l.t l.text l.w l.pair.left l.pair.right (depth_limit - l.n) l.stack l.n l.c)

abbrev pub decreases-loop-n : goal.decreases-loop-n
decreases-loop-n l = turns_left (depth_limit - l.n) l.stack l.n
