use Rattle.std.proofs.Common.{◌∙◌, sym}
use Rattle.answer_printer.proofs.clause_lines.Laws.{prefix_all, prefix_end, prefix_on}
use Rattle.answer_printer.proofs.clause_lines.prefix_to.Goals as goal

pub loop-x-init : goal.loop-x-init
loop-x-init c = prefix_all _ _ _ _ _ _ _ _ c.widen.ensures.0

pub loop-x-preserved : goal.loop-x-preserved
loop-x-preserved c =
    c.loop-x.invariant ∙ prefix_on _ _ _ _ _ _ _ _ _ _ c.loop-x-test.true (c.emit_to-e.ensures _) c.truncate.ensures c.term_to-q.ensures

pub returns : goal.returns
returns c = sym (c.loop-x.invariant ∙ prefix_end _ _ _ _ _ _ _ c.loop-x-test.false)
