use Prim.Native.Nat.{◌-◌}
use mathlib.Core.Path.{◌≡◌}
use lib.ListN.{length}
use Rattle.line_checking.specs.Clauses.{prefix_from}
use Rattle.line_rules.proofs.prefixes.prefix_from.Given as goal

abbrev pub invariant-loop-turn : goal.invariant-loop-turn
invariant-loop-turn l = (length l.w ≡ length l.initial.w) × (l.rest.level ≡ l.fn.prefix.level) × (prefix_from l.fn.prefix.count l.input.sheet.now l.input.table.now l.input.shape.symbols l.input.text.now l.initial.w l.line.number
    l.fn.prefix.names l.fn.prefix.at l.fn.prefix.level l.line.end ≡ prefix_from (l.fn.prefix.count - l._turn) l.input.sheet.now l.input.table.now l.input.shape.symbols l.input.text.now l.w l.line.number l.rest.names
    l.rest.at l.rest.level l.line.end)
