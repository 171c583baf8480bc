use Prim.Native.Nat.{◌-◌}
use Rattle.scanning.specs.Numbering.{level_from}
use lib.ListN.{length}
use mathlib.Core.Path.{◌≡◌}
use Rattle.numbering_check.proofs.first_levels.level_from.Given as goal

abbrev pub invariant-loop-at : goal.invariant-loop-at
invariant-loop-at l = level_from (length l.text - l.i) l.text l.c l.n l.i ≡ level_from (length l.text - l.at) l.text l.c l.n l.at

abbrev pub decreases-loop-at : goal.decreases-loop-at
decreases-loop-at l = length l.text - l.at
