use Prim.Native.Nat.{◌-◌}
use Rattle.scanning.specs.Classes.{root_from, root_of, root_steps}
use lib.ListN.{length}
use mathlib.Core.Path.{◌≡◌}
use Rattle.instances.proofs.name_classes.root_of.Given as goal

abbrev pub invariant-loop-turn : goal.invariant-loop-turn
invariant-loop-turn l = (length l.c ≡ length l.initial.c) × (root_of l.initial.c l.i ≡ root_from (root_steps - l._turn) l.c l.at)
