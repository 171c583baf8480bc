use mathlib.Core.Path.{sym, ◌∙◌}
use Rattle.checker_state.proofs.registers.Laws.{free_none, free_here, free_on}
use Rattle.checker_state.proofs.registers.free_from.Goals as goal

pub returns-then-bit_of-eq1 : goal.returns-then-bit_of-eq1
returns-then-bit_of-eq1 c =
    sym (c.loop-at.invariant
    ∙ free_here _ _ _ c.loop-at-test.true c.bit_of.ensures c.if-bit_of-eq1.true)

pub loop-at-preserved : goal.loop-at-preserved
loop-at-preserved c =
    c.loop-at.invariant ∙ free_on _ _ _ c.loop-at-test.true c.bit_of.ensures c.if-bit_of-eq1.false

pub returns : goal.returns
returns c = free_none _ _ _ _ c.loop-at.invariant c.loop-at-test.false c.loop-at.auto.at-end c.max.ensures
