use Prim.Native.Nat.{◌-◌}
use mathlib.Core.Path.{◌≡◌}
use Rattle.line_checking.specs.Members.{clause_from}
use Rattle.checker_state.proofs.places.clause_from.Given as goal

abbrev pub invariant-loop-i : goal.invariant-loop-i
invariant-loop-i l = clause_from l.clauses l.t 0 l.k ≡ clause_from (l.clauses - l.i) l.t l.i l.left
