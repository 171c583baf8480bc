use Rattle.std.proofs.Common.{◌≡◌, ◌+◌, ◌-◌, ◌++◌, length, take}
use Rattle.machine_memory.specs.Rows.{row}
use Rattle.machine_memory.proofs.rows.row.Given as goal

abbrev pub invariant-loop-i : goal.invariant-loop-i
invariant-loop-i g l =
    (length l.numbers ≡ g.row.N) × (row g.row.N l.w l.u l.f ≡ take l.i l.numbers ++ row (g.row.N - l.i) l.w l.u (l.f + l.i))
