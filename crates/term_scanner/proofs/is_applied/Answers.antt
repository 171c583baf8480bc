use borrow.Author.Tests.{le-ltb, lt-ltb}
use Rattle.term_scanner.proofs.is_applied.Goals as goal

pub returns-then-k-symbols : goal.returns-then-k-symbols
returns-then-k-symbols c = simp (c.is_function.ensures, lt-ltb _ _ c.if-k-symbols.true)

pub returns : goal.returns
returns c = simp (le-ltb _ _ c.if-k-symbols.false)
