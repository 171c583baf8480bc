use mathlib.Core.Path.{sym, ◌∙◌}
use Rattle.line_parser.proofs.lines.Laws.{one_bad, one_more_lem, one_last}
use Rattle.line_parser.proofs.lines.one_number.Goals as goal

pub returns-in_default : goal.returns-in_default
returns-in_default c = one_bad _ (sym c.read_number.ensures ∙ c.in_default.is)

pub returns-then-e-s : goal.returns-then-e-s
returns-then-e-s c =
    one_more_lem _ _ _ (sym c.read_number.ensures ∙ c.in-Some.is) c.if-e-s.true

pub returns : goal.returns
returns c =
    one_last _ _ _ (sym c.read_number.ensures ∙ c.in-Some.is) c.if-e-s.false
