use Rattle.std.proofs.Common.{arith, sym, ◌∙◌}
use Rattle.line_parser.proofs.line_kinds.Laws.{connective_none, connective_and, connective_or, connective_implies, connective_other}
use Rattle.line_parser.proofs.line_kinds.read_connective.Goals as goal

pub returns-in_default : goal.returns-in_default
returns-in_default c = connective_none _ _ _ (sym c.two_numbers.ensures ∙ c.in_default.is)

pub returns-in-38 : goal.returns-in-38
returns-in-38 c = connective_and _ _ _ _ (sym c.two_numbers.ensures ∙ c.in-Ok.is) c.in-38.is

pub returns-in-124 : goal.returns-in-124
returns-in-124 c = connective_or _ _ _ _ (sym c.two_numbers.ensures ∙ c.in-Ok.is) c.in-124.is

pub returns-in-62 : goal.returns-in-62
returns-in-62 c = connective_implies _ _ _ _ (sym c.two_numbers.ensures ∙ c.in-Ok.is) c.in-62.is

pub returns-in_default-letter : goal.returns-in_default-letter
returns-in_default-letter c = connective_other _ _ (λ e. omega arith) (λ e. omega arith) (λ e. omega arith)
