use mathlib.Core.Path.{sym, ◌∙◌}
use Rattle.line_parser.proofs.line_kinds.Laws.{variable_none, variable_large, variable_is}
use Rattle.line_parser.proofs.line_kinds.read_variable.Goals as goal

pub returns-in_default : goal.returns-in_default
returns-in_default c = variable_none _ _ (sym c.one_number.ensures ∙ c.in_default.is)

pub returns-then-v-ge-VARIABLE_NAMES : goal.returns-then-v-ge-VARIABLE_NAMES
returns-then-v-ge-VARIABLE_NAMES c =
    variable_large _ _ (sym c.one_number.ensures ∙ c.in-Ok.is) c.if-v-ge-VARIABLE_NAMES.true

pub returns : goal.returns
returns c =
    variable_is _ _ (sym c.one_number.ensures ∙ c.in-Ok.is) c.if-v-ge-VARIABLE_NAMES.false
