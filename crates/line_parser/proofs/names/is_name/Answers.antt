use Rattle.std.proofs.Common.{arith, sym, ◌∙◌}
use Rattle.line_parser.proofs.names.Laws.{name_empty, name_long, name_other, name_letter}
use Rattle.line_parser.proofs.names.is_name.Goals as goal

pub returns-in_default : goal.returns-in_default
returns-in_default c = sym (name_empty _ (omega arith))

pub returns-then-f-gt-MAX_NAME : goal.returns-then-f-gt-MAX_NAME
returns-then-f-gt-MAX_NAME c = sym (name_long _ c.if-f-gt-MAX_NAME.true)

pub returns-then-is_letter : goal.returns-then-is_letter
returns-then-is_letter c =
    c.name_bytes.ensures
    ∙ sym (name_letter _ (λ e. omega arith) c.if-f-gt-MAX_NAME.false
    (sym c.is_letter.ensures ∙ c.if-is_letter.true))

pub returns-else-is_letter : goal.returns-else-is_letter
returns-else-is_letter c = c.if-is_letter.false ∙ sym (name_other _ (sym c.is_letter.ensures ∙ c.if-is_letter.false))
