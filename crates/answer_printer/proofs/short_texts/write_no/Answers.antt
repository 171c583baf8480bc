use Rattle.sheet_format.specs.Bytes.{ascii}
use Rattle.printing.specs.Writer.{write_no}
use Rattle.answer_printer.proofs.short_texts.write_no.Goals as goal

pub returns : goal.returns
unfolding write_no ascii
returns c = c.write_short.ensures
