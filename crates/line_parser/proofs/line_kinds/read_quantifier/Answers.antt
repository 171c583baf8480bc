use Rattle.std.proofs.Common.{arith, sym, ◌∙◌}
use Rattle.line_parser.proofs.line_kinds.Laws.{quantifier_none, quantifier_large, quantifier_some, quantifier_every}
use Rattle.line_parser.proofs.line_kinds.Laws.{quantifier_other}
use Rattle.line_parser.proofs.line_kinds.read_quantifier.Goals as goal

pub returns-in_default : goal.returns-in_default
returns-in_default c = quantifier_none _ _ _ (sym c.two_numbers.ensures ∙ c.in_default.is)

pub returns-then-variable-ge-VARIABLE_NAMES : goal.returns-then-variable-ge-VARIABLE_NAMES
returns-then-variable-ge-VARIABLE_NAMES c =
    quantifier_large _ _ _ _ (sym c.two_numbers.ensures ∙ c.in-Ok.is) c.if-variable-ge-VARIABLE_NAMES.true

pub returns-in-69 : goal.returns-in-69
returns-in-69 c =
    quantifier_some _ _ _ _ (sym c.two_numbers.ensures ∙ c.in-Ok.is) c.if-variable-ge-VARIABLE_NAMES.false c.in-69.is

pub returns-in-85 : goal.returns-in-85
returns-in-85 c =
    quantifier_every _ _ _ _ (sym c.two_numbers.ensures ∙ c.in-Ok.is) c.if-variable-ge-VARIABLE_NAMES.false c.in-85.is

pub returns-in_default-letter : goal.returns-in_default-letter
returns-in_default-letter c = quantifier_other _ _ (λ e. omega arith) (λ e. omega arith)
