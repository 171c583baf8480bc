use mathlib.Core.Path.{sym, ◌∙◌}
use Rattle.line_parser.proofs.line_kinds.Laws.{apply_bad, apply_last, apply_more}
use Rattle.line_parser.proofs.line_kinds.read_application.Goals as goal

pub returns-in_default : goal.returns-in_default
returns-in_default c = apply_bad _ (sym c.read_number.ensures ∙ c.in_default.is)

pub returns-then-s-e : goal.returns-then-s-e
returns-then-s-e c =
    apply_last _ _ _ (sym c.read_number.ensures ∙ c.in-Some.is) c.if-s-e.true

pub returns : goal.returns
returns c =
    c.read_nodes.ensures
    ∙ apply_more _ _ _ (sym c.read_number.ensures ∙ c.in-Some.is)
    c.if-s-e.false
