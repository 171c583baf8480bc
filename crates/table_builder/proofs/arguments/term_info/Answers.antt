use Rattle.table_builder.specs.Symbols.{term_info}
use borrow.Author.Tests.{le-leb, lt-leb}
use Rattle.table_builder.proofs.arguments.term_info.Goals as goal

pub returns-then-size-le-MAX_TERM_SIZE : goal.returns-then-size-le-MAX_TERM_SIZE
unfolding term_info
returns-then-size-le-MAX_TERM_SIZE c =
    simp (term_info, ← c.pack_info.ensures, le-leb _ _ c.if-size-le-MAX_TERM_SIZE.true)

pub returns : goal.returns
unfolding term_info
returns c =
    simp (term_info, lt-leb _ _ c.if-size-le-MAX_TERM_SIZE.false)
