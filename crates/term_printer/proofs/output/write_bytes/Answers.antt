use Rattle.std.proofs.Common.{◌∙◌, sym}
use Rattle.term_printer.proofs.output.Laws.{bytes_end, bytes_on}
use Rattle.term_printer.proofs.output.write_bytes.Goals as goal

pub loop-b-preserved : goal.loop-b-preserved
loop-b-preserved c = c.loop-b.invariant ∙ bytes_on _ _ _ _ _ _ _ c.loop-b-test.true c.emit-to.ensures

pub returns : goal.returns
returns c = sym (c.loop-b.invariant ∙ bytes_end _ _ _ _ _ c.loop-b-test.false)
