use Rattle.line_writer.proofs.Laws.{number_appended, number_room}
use Rattle.line_writer.proofs.put_number.Goals as goal

pub put_digits-requires : goal.put_digits-requires
put_digits-requires c =
    number_room _ _ _ _ c.widen.ensures.0 c.requires

pub returns : goal.returns
returns c =
    number_appended _ _ _ _ _ _ c.widen.ensures.0 c.put_digits.ensures
