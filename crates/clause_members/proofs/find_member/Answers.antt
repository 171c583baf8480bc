use Prim.Native.Nat.{◌+◌, ◌-◌}
use native.Mathlib.Omega.{arith}
use Rattle.clause_members.proofs.Laws.{find_on, find_done, found_trans}
use Rattle.clause_members.proofs.find_member.Goals as goal

pub returns-then-kind-ne-AND : goal.returns-then-kind-ne-AND
returns-then-kind-ne-AND g c =
    found_trans _ _ _ _
    (find_done _ _ (c.args.fuel - (c.loop-turn._turn + 1)) _ _ (omega arith) _ c.kind.ensures _ _ c.if-kind-eq-AND.false
    c.pass-m.ensures _ c.kind-in-loop-turn.ensures c.if-kind-ne-AND.true) c.loop-turn.invariant

pub loop-turn-preserved : goal.loop-turn-preserved
loop-turn-preserved g c =
    found_trans _ _ _ _
    (find_on _ _ _ _ _ (omega arith) _ c.kind.ensures _ _ c.if-kind-eq-AND.false c.pass-m.ensures _ c.kind-in-loop-turn.ensures
    c.if-kind-ne-AND.false) c.loop-turn.invariant
