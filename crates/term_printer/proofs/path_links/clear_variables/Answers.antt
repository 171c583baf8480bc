use Rattle.std.proofs.Common.{◌∙◌, sym}
use Rattle.term_printer.proofs.path_links.Laws.{variables_end, variables_on}
use Rattle.term_printer.proofs.path_links.clear_variables.Goals as goal

pub loop-x-preserved : goal.loop-x-preserved
loop-x-preserved c = c.loop-x.invariant ∙ variables_on _ _ _ c.loop-x-test.true c.clear_variable.ensures

pub returns : goal.returns
returns c = sym (c.loop-x.invariant ∙ variables_end _ _ c.loop-x-test.false)
