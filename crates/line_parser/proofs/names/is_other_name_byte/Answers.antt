use Rattle.std.proofs.Common.{sym, ◌∙◌}
use Rattle.std.proofs.lemmas.Bool.{both_ways}
use Rattle.line_parser.proofs.names.Laws.{other_low, other_capital, other_digit, other_mark}
use Rattle.line_parser.proofs.names.is_other_name_byte.Goals.{then-is_ascii_uppercase, else-is_ascii_uppercase}
use Rattle.line_parser.proofs.names.is_other_name_byte.Goals as goal

pub returns-then-b-lt48 : goal.returns-then-b-lt48
returns-then-b-lt48 c = other_low _ c.if-b-lt48.true

pub returns-then-is_ascii_digit : goal.returns-then-is_ascii_digit
returns-then-is_ascii_digit c =
    c.if-is_ascii_digit.true
    ∙ elim c.if-is_ascii_uppercase.branch [
      | then-is_ascii_uppercase w ↦ other_capital _ (sym c.is_ascii_uppercase.ensures.value ∙ w.if-is_ascii_uppercase.true)
      | else-is_ascii_uppercase w ↦ other_digit _ (sym w.is_ascii_digit.ensures.value ∙ sym w.value-is ∙ c.if-is_ascii_digit.true)
    ]

pub returns-else-is_ascii_digit : goal.returns-else-is_ascii_digit
returns-else-is_ascii_digit c =
    elim c.if-is_ascii_uppercase.branch [
      | then-is_ascii_uppercase w ↦ absurd (both_ways _ c.if-is_ascii_digit.false (w.value-is ∙ w.if-is_ascii_uppercase.true))
      | else-is_ascii_uppercase w ↦ other_mark _ (sym c.is_ascii_uppercase.ensures.value ∙ w.if-is_ascii_uppercase.false)
          (sym w.is_ascii_digit.ensures.value ∙ sym w.value-is ∙ c.if-is_ascii_digit.false)
    ]
