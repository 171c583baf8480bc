use Rattle.std.proofs.Common.{◌≡◌, ◌-◌, length}
use Rattle.machine.specs.Trail.{undo}
use Rattle.machine_memory.proofs.trail.undo.Given as goal

abbrev pub invariant-loop-entry : goal.invariant-loop-entry
invariant-loop-entry l =
    (length l.w ≡ length l.initial.w) × (undo l.n l.initial.w l.h l.mark ≡ undo (l.n - l._entry) l.w l.at l.mark)
