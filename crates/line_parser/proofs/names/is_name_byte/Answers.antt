use Rattle.std.proofs.Common.{sym, ◌∙◌}
use Rattle.line_parser.proofs.names.Laws.{byte_small, byte_other}
use Rattle.line_parser.proofs.names.is_name_byte.Goals as goal

pub returns-then-is_ascii_lowercase : goal.returns-then-is_ascii_lowercase
returns-then-is_ascii_lowercase c =
    c.if-is_ascii_lowercase.true ∙ byte_small _ (sym c.is_ascii_lowercase.ensures.value ∙ c.if-is_ascii_lowercase.true)

pub returns-else-is_ascii_lowercase : goal.returns-else-is_ascii_lowercase
returns-else-is_ascii_lowercase c =
    c.is_other_name_byte.ensures ∙ byte_other _ (sym c.is_ascii_lowercase.ensures.value ∙ c.if-is_ascii_lowercase.false)
