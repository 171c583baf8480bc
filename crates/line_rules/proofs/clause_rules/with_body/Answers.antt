use Rattle.line_rules.proofs.clause_rules.Laws.{body_due, body_none}
use Rattle.line_rules.proofs.clause_rules.with_body.Goals as goal

pub returns-then-kind-eq-IMPLIES : goal.returns-then-kind-eq-IMPLIES
returns-then-kind-eq-IMPLIES c =
    body_due _ _ _ _ _ _ c.kind.ensures _ _ c.if-kind-eq-IMPLIES.true c.child.ensures
    c.with_sequent.ensures

pub returns : goal.returns
returns c = body_none _ _ _ _ _ _ c.kind.ensures _ c.if-kind-eq-IMPLIES.false c.next_sequent.ensures
