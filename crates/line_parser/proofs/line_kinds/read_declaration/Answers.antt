use mathlib.Core.Path.{sym, ◌∙◌}
use Rattle.line_parser.proofs.line_kinds.Laws.{declare_absent, declare_short, declare_more}
use Rattle.line_parser.proofs.line_kinds.read_declaration.Goals as goal

pub returns-in_default : goal.returns-in_default
returns-in_default c =
    declare_absent _ _ c.read_name-name.ensures _ (sym c.name_of.ensures ∙ c.in_default.is)

pub returns-then-s-n : goal.returns-then-s-n
returns-then-s-n c =
    declare_short _ _ c.read_name-name.ensures _ _ (sym c.name_of.ensures ∙ c.in-Some.is)
    c.if-s-n.true

pub returns : goal.returns
returns c =
    c.declared_arity.ensures
    ∙ declare_more _ _ c.read_name-name.ensures _ _ (sym c.name_of.ensures ∙ c.in-Some.is)
    c.if-s-n.false
