use Prim.Native.Nat.{◌-◌}
use mathlib.Core.Path.{◌≡◌}
use Rattle.clause_members.specs.Members.{reverse_free}
use Rattle.clause_members.proofs.reverse_free.Given as goal

abbrev pub invariant-loop-turn : goal.invariant-loop-turn
invariant-loop-turn l =
    reverse_free l.fn.m.count l.fn.m.names l.free l.fn.r ≡ reverse_free (l._turn-end - l._turn) l.names l.free l.front
