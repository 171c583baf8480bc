use Rattle.std.proofs.Common.{◌∙◌, sym}
use Rattle.answer_printer.proofs.binding_lines.Laws.{bindings_end, bindings_on}
use Rattle.answer_printer.proofs.binding_lines.bindings_to.Goals as goal

pub loop-name-preserved : goal.loop-name-preserved
loop-name-preserved c = c.loop-name.invariant ∙ bindings_on _ _ _ _ _ _ _ _ _ c.loop-name-test.true c.binding_to-q.ensures

pub returns : goal.returns
returns c = sym (c.loop-name.invariant ∙ bindings_end _ _ _ _ _ _ _ _ c.loop-name-test.false)
