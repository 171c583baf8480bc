use Rattle.std.proofs.Common.{◌≡◌, ◌+◌, ◌-◌, length}
use Rattle.machine.specs.Frames.{put_variables}
use Rattle.machine_memory.proofs.frames.put_variables.Given as goal

abbrev pub invariant-loop-fresh : goal.invariant-loop-fresh
invariant-loop-fresh l =
    (length l.w ≡ length l.initial.w) × (put_variables l.n l.initial.w l.x ≡ put_variables (l.x + l.n - l.fresh) l.w l.fresh)
