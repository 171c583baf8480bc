use Rattle.std.proofs.lemmas.Bool.Decides.{Decides-eqb}
use Rattle.std.proofs.lemmas.Slice.Eq.{starts_is}
use Rattle.sheet_format.specs.Bytes.{ascii}
use Rattle.sheet_reader.specs.FirstLine.{begins_with_order}
use Rattle.sheet_reader.proofs.first_line.Begins.{begins_is}
use Rattle.sheet_reader.proofs.first_line.begins_with_order.Goals as goal

pub returns : goal.returns
unfolding begins_with_order ascii
returns c =
    begins_is (ascii "O\tlatest\n") c.args.sheet.now _ (starts_is Decides-eqb c.args.sheet.now (ascii "O\tlatest\n") _ c.starts_with.ensures.value)
