use mathlib.Core.Path.{sym, ◌∙◌}
use Rattle.machine_memory.proofs.trail.Laws.{undo_end, undo_done, undo_on}
use Rattle.machine_memory.proofs.trail.undo.Goals as goal

pub returns-then-at-mark : goal.returns-then-at-mark
returns-then-at-mark c = sym (c.loop-entry.invariant.1 ∙ undo_done _ _ _ _ c.if-at-mark.true)

pub loop-entry-preserved : goal.loop-entry-preserved
loop-entry-preserved c = (
  c.undo_entry.auto.w ∙ c.loop-entry.invariant.0,
  c.loop-entry.invariant.1
      ∙ undo_on _ _ _ _ _ _ _ _ c.loop-entry-test.true c.if-at-mark.false c.record_of-q.ensures
      c.field-before.ensures c.undo_entry.ensures,
)

pub returns : goal.returns
returns c = sym (c.loop-entry.invariant.1 ∙ undo_end _ _ _ _ _ c.loop-entry-test.false)
