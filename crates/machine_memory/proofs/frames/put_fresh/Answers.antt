use Rattle.machine_memory.proofs.frames.Laws.{fresh_end, fresh_on}
use mathlib.Core.Path.{sym, ◌∙◌}
use Rattle.machine_memory.proofs.frames.put_fresh.Goals as goal

pub loop-turn-preserved : goal.loop-turn-preserved
loop-turn-preserved c = (
  c.put_slot.auto.w ∙ c.put_variable.auto.w ∙ c.loop-turn.invariant.0,
  c.loop-turn.invariant.1
      ∙ fresh_on _ _ _ _ _ _ _ _ _ _ _ c.loop-turn-test.true c.put_variable.ensures
      c.variable_word.ensures c.put_slot.ensures c.increment-fresh.ensures,
)

pub returns : goal.returns
returns c = sym (c.loop-turn.invariant.1 ∙ fresh_end _ _ _ _ _ _ _ c.loop-turn-test.false)
