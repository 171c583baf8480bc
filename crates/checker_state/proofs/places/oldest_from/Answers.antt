use mathlib.Core.Path.{sym, ◌∙◌}
use Rattle.checker_state.proofs.places.Laws.{oldest_end, oldest_none, oldest_here, oldest_past, oldest_on}
use Rattle.checker_state.proofs.places.oldest_from.Goals as goal

pub returns-then-next-eq0 : goal.returns-then-next-eq0
returns-then-next-eq0 c =
    sym (c.loop-turn.invariant
    ∙ oldest_none _ _ _ _ _ _ _ c.loop-turn-test.true _ c.if-next-eq0.true c.clause_from.ensures)

pub returns-then-number-members : goal.returns-then-number-members
returns-then-number-members c =
    sym (c.loop-turn.invariant ∙ oldest_here _ _ _ _ _ _ _ c.loop-turn-test.true _ c.if-next-eq0.false
    c.field-start.ensures _ _ c.if-start-k.true c.field-node.ensures
    c.members.ensures.0 _ c.if-number-members.true c.field.ensures)

pub returns-then-start-k : goal.returns-then-start-k
returns-then-start-k c =
    sym (c.loop-turn.invariant ∙ oldest_past _ _ _ _ _ _ _ c.loop-turn-test.true _ c.if-next-eq0.false
    c.field-start.ensures _ _ c.if-start-k.true c.field-node.ensures c.members.ensures.0
    c.if-number-members.false)

pub loop-turn-preserved : goal.loop-turn-preserved
loop-turn-preserved c =
    c.loop-turn.invariant ∙ oldest_on _ _ _ _ _ _ _ c.loop-turn-test.true _ c.if-next-eq0.false
    c.field-start.ensures _ c.if-start-k.false c.step_before-next.ensures

pub returns : goal.returns
returns c = sym (c.loop-turn.invariant ∙ oldest_end _ _ _ _ _ _ _ _ c.loop-turn-test.false c.clause_from-2.ensures)
