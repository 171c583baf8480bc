use mathlib.Core.Path.{sym, ◌∙◌}
use Rattle.line_parser.proofs.line_kinds.Laws.{arity_none, arity_large, arity_is}
use Rattle.line_parser.proofs.line_kinds.declared_arity.Goals as goal

pub returns-in_default : goal.returns-in_default
returns-in_default c = arity_none _ _ _ _ (sym c.one_number.ensures ∙ c.in_default.is)

pub returns-then-a-gt-MAX_ARITY : goal.returns-then-a-gt-MAX_ARITY
returns-then-a-gt-MAX_ARITY c =
    arity_large _ _ _ _ (sym c.one_number.ensures ∙ c.in-Ok.is) c.if-a-gt-MAX_ARITY.true

pub returns : goal.returns
returns c =
    arity_is _ _ _ _ (sym c.one_number.ensures ∙ c.in-Ok.is) c.if-a-gt-MAX_ARITY.false
