use mathlib.Core.Path.{sym, ◌∙◌}
use Rattle.line_parser.proofs.lines.Laws.{second_none, second_is}
use Rattle.line_parser.proofs.lines.second_number.Goals as goal

pub returns-in_default : goal.returns-in_default
returns-in_default c = second_none _ _ _ (sym c.one_number.ensures ∙ c.in_default.is)

pub returns : goal.returns
returns c = second_is _ _ _ (sym c.one_number.ensures ∙ c.in-Ok.is)
