use Rattle.sheet_format.specs.Bytes.{ascii}
use Rattle.printing.specs.Writer.{write_spent}
use Rattle.answer_printer.proofs.short_texts.write_spent.Goals as goal

pub returns : goal.returns
unfolding write_spent ascii
returns c = c.write_short.ensures
