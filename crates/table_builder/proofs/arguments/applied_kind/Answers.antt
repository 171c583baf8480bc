use Rattle.table_builder.specs.Symbols.{applied_kind}
use borrow.Author.Rules.{rules}
use Rattle.table_builder.proofs.arguments.applied_kind.Goals as goal

pub returns-then-is_function : goal.returns-then-is_function
unfolding applied_kind
returns-then-is_function c =
    (simp (applied_kind, c.if-is_function.true, ← c.is_function.ensures), search rules)

pub returns : goal.returns
unfolding applied_kind
returns c =
    (simp (applied_kind, c.if-is_function.false, ← c.is_function.ensures), search rules)
