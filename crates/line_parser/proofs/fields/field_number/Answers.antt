use Rattle.std.proofs.Common.{rules, ap, sym, ◌∙◌}
use Rattle.std.proofs.lemmas.Bool.{eqb-false}
use Rattle.line_parser.specs.Fields.{number_answer}
use Rattle.line_parser.proofs.fields.Laws.{number_empty, number_zero_lem, number_padded, number_digits, answer_bad, answer_value}
use Rattle.line_parser.proofs.fields.field_number.Goals as goal

pub returns-then-is_empty : goal.returns-then-is_empty
returns-then-is_empty c = answer_bad _ _ (number_empty _ (search rules))

pub returns-then-f-eq1 : goal.returns-then-f-eq1
returns-then-f-eq1 c = answer_value _ _ _ _ (number_zero_lem _ c.if-f-eq48.true c.if-f-eq1.true) c.if-f-eq1.true

pub returns-then-f-eq48 : goal.returns-then-f-eq48
returns-then-f-eq48 c = answer_bad _ _ (number_padded _ c.if-f-eq48.true c.if-f-eq1.false)

pub returns : goal.returns
returns c =
    c.read_digits.ensures
    ∙ ap (number_answer _) (sym (number_digits _ (eqb-false _ _ (sym c.is_empty.ensures ∙ c.if-is_empty.false)) c.if-f-eq48.false))
