use Rattle.machine_memory.proofs.frames.Laws.{variables_end, variables_on}
use mathlib.Core.Path.{sym, ◌∙◌}
use Rattle.machine_memory.proofs.frames.put_variables.Goals as goal

pub loop-fresh-preserved : goal.loop-fresh-preserved
loop-fresh-preserved c = (
  c.put_variable.auto.w ∙ c.loop-fresh.invariant.0,
  c.loop-fresh.invariant.1
      ∙ variables_on _ _ _ _ c.loop-fresh-test.true c.put_variable.ensures,
)

pub returns : goal.returns
returns c = sym (c.loop-fresh.invariant.1 ∙ variables_end _ _ _ c.loop-fresh-test.false)
