use Rattle.table_builder.specs.Symbols.{name_is}
use borrow.Author.Tests.{eq-eqb, ne_eqb}
use Rattle.table_builder.proofs.symbols.name_is.Goals as goal

pub returns-then-name_word-word : goal.returns-then-name_word-word
unfolding name_is
returns-then-name_word-word c =
    simp (
      name_is,
      ← c.same_at.ensures,
      ← c.widen.ensures.0,
      ← c.name_start.ensures,
      eq-eqb _ _ c.if-name_word-word.true,
      ← c.name_word.ensures,
    )

pub returns-else-name_word-word : goal.returns-else-name_word-word
unfolding name_is
returns-else-name_word-word c = simp (name_is, ne_eqb _ _ c.if-name_word-word.false, ← c.name_word.ensures)
