use Rattle.std.proofs.Common.{sym, ◌∙◌}
use Rattle.line_parser.proofs.line_kinds.Laws.{single_none, single_is}
use Rattle.line_parser.proofs.line_kinds.read_single.Goals as goal

pub returns-in_default : goal.returns-in_default
returns-in_default g c = λ l m. single_none _ l _ (sym c.one_number.ensures ∙ c.in_default.is)

pub returns : goal.returns
returns g c = λ l m. single_is _ l _ _ (sym c.one_number.ensures ∙ c.in-Ok.is) (m _ _ c.make.ensures)
