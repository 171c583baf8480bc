use Rattle.std.proofs.Common.{arith}
use Rattle.printing.specs.Writer.{text_limit}
use Rattle.answer_printer.proofs.short_texts.text_limit.Goals as goal

pub returns : goal.returns
unfolding text_limit
returns c = omega (arith, c.min.ensures)
