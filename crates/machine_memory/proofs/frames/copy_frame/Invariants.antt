use Rattle.std.proofs.Common.{◌≡◌, ◌+◌, ◌-◌, length}
use Rattle.machine.specs.Frames.{copy_frame}
use Rattle.machine_memory.proofs.frames.copy_frame.Given as goal

abbrev pub invariant-loop-at : goal.invariant-loop-at
invariant-loop-at l =
    (length l.w ≡ length l.initial.w) × (copy_frame l.n l.initial.w l.u l.f l.v ≡ copy_frame (l.v + l.n - l.at) l.w l.u l.f l.at)
