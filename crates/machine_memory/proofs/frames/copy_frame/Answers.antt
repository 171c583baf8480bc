use Rattle.machine_memory.proofs.frames.Laws.{copy_end, copy_on}
use mathlib.Core.Path.{sym, ◌∙◌}
use Rattle.machine_memory.proofs.frames.copy_frame.Goals as goal

pub loop-at-preserved : goal.loop-at-preserved
loop-at-preserved c = (
  c.put_slot.auto.w ∙ c.loop-at.invariant.0,
  c.loop-at.invariant.1
      ∙ copy_on _ _ _ _ _ _ _ c.loop-at-test.true c.slot_of-a.ensures c.put_slot.ensures,
)

pub returns : goal.returns
returns c = sym (c.loop-at.invariant.1 ∙ copy_end _ _ _ _ _ c.loop-at-test.false)
