use Prim.Native.Nat.{◌+◌, ◌-◌}
use Rattle.scanning.specs.Frames.{copy_ranges}
use lib.ListN.{length}
use mathlib.Core.Path.{◌≡◌}
use Rattle.instances.proofs.frames.copy_ranges.Given as goal

abbrev pub invariant-loop-at : goal.invariant-loop-at
invariant-loop-at l = (length l.w ≡ length l.initial.w) × (copy_ranges l.n l.initial.w l.r l.q l.f ≡ copy_ranges (l.f + l.n - l.at) l.w l.r l.q l.at)
