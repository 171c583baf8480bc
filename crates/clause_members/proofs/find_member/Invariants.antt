use Prim.Native.Nat.{◌-◌}
use Rattle.clause_members.specs.Members.{found, find_member, FoundAs}
use Rattle.clause_members.specs.contracts.find_member.{NAMES-type}
use Rattle.clause_members.proofs.find_member.Given as goal

abbrev pub invariant-loop-turn : goal.invariant-loop-turn
invariant-loop-turn g l =
    FoundAs (NAMES-type (denote.Param.number g.row.NAMES)) (find_member (l.fuel - l._turn) l.t l.place l.m)
    (find_member l.fuel l.t l.k (found l.n 0 0))
