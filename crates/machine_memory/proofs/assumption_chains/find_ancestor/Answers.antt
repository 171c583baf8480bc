use mathlib.Core.Path.{sym, ◌∙◌}
use Rattle.machine_memory.proofs.assumption_chains.Laws.{find_ancestor_end, find_ancestor_here, find_ancestor_on}
use Rattle.machine_memory.proofs.assumption_chains.find_ancestor.Goals as goal

pub returns-then-assumption_field-d : goal.returns-then-assumption_field-d
returns-then-assumption_field-d c =
    sym (c.loop-turn.invariant ∙ find_ancestor_here _ _ _ _ _ c.assumption_field.ensures c.if-assumption_field-d.true)

pub loop-turn-preserved : goal.loop-turn-preserved
loop-turn-preserved c =
    c.loop-turn.invariant
    ∙ find_ancestor_on _ _ _ _ _ _ _ c.loop-turn-test.true c.assumption_field.ensures
    c.if-assumption_field-d.false c.step_towards-at.ensures

pub returns : goal.returns
returns c = sym (c.loop-turn.invariant ∙ find_ancestor_end _ _ _ _ _ c.loop-turn-test.false)
