use Rattle.std.proofs.Common.{◌∙◌, sym}
use Rattle.term_printer.proofs.numbering.Laws.{constants_end, constants_on}
use Rattle.term_printer.proofs.numbering.clear_constants.Goals as goal

pub loop-c-preserved : goal.loop-c-preserved
loop-c-preserved c = c.loop-c.invariant ∙ constants_on _ _ _ c.loop-c-test.true c.put_field.ensures

pub returns : goal.returns
returns c = sym (c.loop-c.invariant ∙ constants_end _ _ c.loop-c-test.false)
