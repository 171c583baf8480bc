use Prim.Native.Nat.{◌≤◌}
use mathlib.Core.Path.{◌≡◌}
use lib.ListN.{length}
use Rattle.machine.specs.Machine.{run_acts}
use Rattle.machine_memory.specs.Settling.{settled}
use Rattle.machine_loop.proofs.run_acts.Given as goal

abbrev pub invariant-loop-r : goal.invariant-loop-r
invariant-loop-r l = (length l.w ≡ length l.initial.w) × (l.left ≤ l.initial.left) × (run_acts l.fn.n l.t l.c l.fn.w l.fn.from ≡ run_acts l.left l.t l.c l.w l.r)

abbrev pub decreases-loop-r : goal.decreases-loop-r
decreases-loop-r l = l.left

abbrev pub invariant-members : goal.invariant-members
invariant-members l = (length l.w ≡ length l.initial.w) × (run_acts l.n l.t l.c l.fn.w l.fn.from ≡ run_acts l.left l.t l.c (settled l.w l.r).memory (settled l.w l.r).registers)

abbrev pub decreases-members : goal.decreases-members
decreases-members l = l.left
