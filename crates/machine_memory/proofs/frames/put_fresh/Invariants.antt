use Rattle.std.proofs.Common.{◌≡◌, ◌-◌, length}
use Rattle.machine.specs.Frames.{put_fresh}
use Rattle.machine_memory.proofs.frames.put_fresh.Given as goal

abbrev pub invariant-loop-turn : goal.invariant-loop-turn
invariant-loop-turn l =
    (length l.w ≡ length l.initial.w)
    × (put_fresh l.n l.initial.w l.u l.vs l.x l.i ≡ put_fresh (l.n - l._turn) l.w l.u l.names l.fresh l.i)
