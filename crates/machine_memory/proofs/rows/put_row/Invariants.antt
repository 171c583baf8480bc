use Rattle.std.proofs.Common.{◌≡◌, ◌+◌, length, drop}
use Rattle.machine_memory.specs.Rows.{put_row}
use Rattle.machine_memory.proofs.rows.put_row.Given as goal

abbrev pub invariant-loop-i : goal.invariant-loop-i
invariant-loop-i l =
    (length l.w ≡ length l.initial.w)
    × (put_row l.numbers l.initial.w l.u l.f ≡ put_row (drop l.i l.numbers) l.w l.u (l.f + l.i))
