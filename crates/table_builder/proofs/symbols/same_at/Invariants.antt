use Rattle.table_builder.specs.Symbols.{same_at}
use lib.ListN.{drop}
use mathlib.Core.Path.{◌≡◌}
use Prim.Native.Nat.{◌+◌}
use Rattle.table_builder.proofs.symbols.same_at.Given as goal

abbrev pub invariant-loop-i : goal.invariant-loop-i
invariant-loop-i l = same_at l.sheet l.at l.name ≡ same_at l.sheet (l.at + l.i) (drop l.i l.name)
