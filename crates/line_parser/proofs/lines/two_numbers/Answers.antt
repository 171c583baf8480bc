use mathlib.Core.Path.{sym, ◌∙◌}
use Rattle.line_parser.proofs.lines.Laws.{two_bad, two_last, two_more}
use Rattle.line_parser.proofs.lines.two_numbers.Goals as goal

pub returns-in_default : goal.returns-in_default
returns-in_default c = two_bad _ (sym c.read_number.ensures ∙ c.in_default.is)

pub returns-then-s-e : goal.returns-then-s-e
returns-then-s-e c =
    two_last _ _ _ (sym c.read_number.ensures ∙ c.in-Some.is) c.if-s-e.true

pub returns : goal.returns
returns c =
    c.second_number.ensures
    ∙ two_more _ _ _ (sym c.read_number.ensures ∙ c.in-Some.is)
    c.if-s-e.false
