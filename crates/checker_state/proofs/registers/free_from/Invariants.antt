use Prim.Native.Nat.{◌-◌}
use mathlib.Core.Path.{◌≡◌}
use Rattle.line_checking.specs.Sequents.{free_from}
use Rattle.checker_state.proofs.registers.free_from.Given as goal

abbrev pub invariant-loop-at : goal.invariant-loop-at
invariant-loop-at l = free_from (8 - l.v) l.mask l.v ≡ free_from (8 - l.at) l.mask l.at
