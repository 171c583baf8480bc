use mathlib.Core.Path.{sym, ◌∙◌}
use Rattle.checker_state.proofs.places.Laws.{clause_start, clause_none, clause_here, clause_on}
use Rattle.checker_state.proofs.places.clause_from.Goals as goal

pub loop-i-init : goal.loop-i-init
loop-i-init c = clause_start _ _ _

pub returns-then-left-count : goal.returns-then-left-count
returns-then-left-count c =
    sym (c.loop-i.invariant ∙ clause_here _ _ _ _ _ _ c.loop-i-test.true
    c.clause_node-node.ensures c.members-count.ensures.0 c.if-left-count.true)

pub loop-i-preserved : goal.loop-i-preserved
loop-i-preserved c =
    c.loop-i.invariant ∙ clause_on _ _ _ _ _ _ c.loop-i-test.true c.clause_node-node.ensures
    c.members-count.ensures.0 c.if-left-count.false

pub returns : goal.returns
returns c = sym (c.loop-i.invariant ∙ clause_none _ _ _ _ c.loop-i-test.false)
