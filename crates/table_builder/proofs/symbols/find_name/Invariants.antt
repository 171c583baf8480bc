use Rattle.table_builder.specs.Symbols.{find_from, find_name}
use mathlib.Core.Path.{◌≡◌}
use Prim.Native.Nat.{◌-◌}
use Rattle.table_builder.proofs.symbols.find_name.Given as goal

abbrev pub invariant-loop-i : goal.invariant-loop-i
invariant-loop-i l = find_name l.sheet l.t l.count l.word l.name ≡ find_from (l.count - l.i) l.sheet l.t l.i l.word l.name
