use Prim.Native.Nat.{◌-◌}
use mathlib.Core.Path.{◌≡◌}
use Rattle.line_checking.specs.Members.{hypothesis_from}
use Rattle.checker_state.proofs.places.hypothesis_from.Given as goal

abbrev pub invariant-loop-turn : goal.invariant-loop-turn
invariant-loop-turn l = hypothesis_from l.n l.t l.clauses l.w l.h l.k ≡ hypothesis_from (l.n - l._turn) l.t l.clauses l.w l.next l.left
