use Prim.Native.Nat.{◌-◌}
use mathlib.Core.Path.{◌≡◌}
use lib.ListN.{length}
use Rattle.scanning.specs.Numbering.{check_numbering}
use Rattle.numbering_check.specs.LevelCache.{CacheValid}
use Rattle.numbering_check.proofs.check_numbering.Given as goal

abbrev pub invariant-loop-at : goal.invariant-loop-at
invariant-loop-at l = (length l.levels ≡ length l.initial.levels) × (check_numbering (l.e - l.i) l.text l.i l.m l.l ≡ check_numbering (l.e - l.at) l.text l.at l.made l.leftover)
    × CacheValid l.text l.levels l.at l.made l.leftover

abbrev pub decreases-loop-at : goal.decreases-loop-at
decreases-loop-at l = l.e - l.at
