use Prim.Native.Nat.{◌-◌}
use mathlib.Core.Path.{◌≡◌}
use Rattle.line_checking.specs.Members.{oldest_from}
use Rattle.checker_state.proofs.places.oldest_from.Given as goal

abbrev pub invariant-loop-turn : goal.invariant-loop-turn
invariant-loop-turn l = oldest_from l.n l.t l.clauses l.w l.h l.k ≡ oldest_from (l.n - l._turn) l.t l.clauses l.w l.next l.k
