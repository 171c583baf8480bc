use Rattle.std.proofs.Common.{◌∙◌}
use Rattle.line_parser.proofs.names.Laws.{letter_is}
use Rattle.line_parser.proofs.names.is_letter.Goals as goal

pub returns : goal.returns
returns c = c.is_ascii_alphabetic.ensures.value ∙ letter_is _
