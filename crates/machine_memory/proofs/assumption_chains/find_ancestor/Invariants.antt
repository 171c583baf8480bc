use Rattle.std.proofs.Common.{◌≡◌, ◌-◌}
use Rattle.machine.specs.AssumptionChains.{find_ancestor}
use Rattle.machine_memory.proofs.assumption_chains.find_ancestor.Given as goal

abbrev pub invariant-loop-turn : goal.invariant-loop-turn
invariant-loop-turn l = find_ancestor l.n l.w l.p l.d ≡ find_ancestor (l.n - l._turn) l.w l.at l.d
