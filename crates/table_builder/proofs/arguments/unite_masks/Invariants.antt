use Rattle.table_builder.specs.Symbols.{masks_from}
use lib.ListN.{drop}
use mathlib.Core.Path.{◌≡◌}
use Prim.Native.Nat.{◌<◌}
use Rattle.table_builder.proofs.arguments.unite_masks.Given as goal

abbrev pub invariant-loop-a : goal.invariant-loop-a
invariant-loop-a l = (l.free < 256) × (masks_from l.t 0 l.args ≡ masks_from l.t l.free (drop l.a-index l.args))
