use Rattle.table_builder.specs.Symbols.{sizes_from}
use lib.ListN.{drop}
use mathlib.Core.Path.{◌≡◌}
use Prim.Native.Nat.{◌+◌, ◌*◌, ◌≤◌}
use Rattle.table_builder.proofs.arguments.sum_sizes.Given as goal

abbrev pub invariant-loop-a : goal.invariant-loop-a
invariant-loop-a l = (l.sum ≤ 1 + 65535 * l.a-index) × (sizes_from l.t 1 l.args ≡ sizes_from l.t l.sum (drop l.a-index l.args))
