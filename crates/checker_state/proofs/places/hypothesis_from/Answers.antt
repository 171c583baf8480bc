use mathlib.Core.Path.{sym, ◌∙◌}
use Rattle.checker_state.proofs.places.Laws.{hypothesis_end, hypothesis_none, hypothesis_here, hypothesis_next_lem, hypothesis_jump_lem}
use Rattle.checker_state.proofs.places.hypothesis_from.Goals as goal

pub returns-then-next-eq0 : goal.returns-then-next-eq0
returns-then-next-eq0 c =
    sym (c.loop-turn.invariant
    ∙ hypothesis_none _ _ _ _ _ _ _ c.loop-turn-test.true _ c.if-next-eq0.true c.clause_from.ensures)

pub returns-then-left-count : goal.returns-then-left-count
returns-then-left-count c =
    sym (c.loop-turn.invariant ∙ hypothesis_here _ _ _ _ _ _ _ c.loop-turn-test.true _ _ c.if-next-eq0.false
    c.field-node.ensures c.members-count.ensures.0 _ c.if-left-count.true c.field.ensures)

pub loop-turn-preserved-then-left-passed : goal.loop-turn-preserved-then-left-passed
loop-turn-preserved-then-left-passed c =
    c.loop-turn.invariant ∙ hypothesis_next_lem _ _ _ _ _ _ _ c.loop-turn-test.true _ _ c.if-next-eq0.false
    c.field-node.ensures c.members-count.ensures.0 _ _ c.if-left-count.false c.field-passed.ensures
    c.if-left-passed.true c.field-next.ensures

pub loop-turn-preserved : goal.loop-turn-preserved
loop-turn-preserved c =
    c.loop-turn.invariant ∙ hypothesis_jump_lem _ _ _ _ _ _ _ c.loop-turn-test.true _ _ c.if-next-eq0.false
    c.field-node.ensures c.members-count.ensures.0 _ _ c.if-left-count.false c.field-passed.ensures
    c.if-left-passed.false c.field-next-in-loop-turn.ensures

pub returns : goal.returns
returns c = sym (c.loop-turn.invariant ∙ hypothesis_end _ _ _ _ _ _ _ _ c.loop-turn-test.false c.clause_from-2.ensures)
