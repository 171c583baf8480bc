use borrow.Author.Tests.{le-ltb, lt-ltb}
use Rattle.term_scanner.proofs.ranges.position_after.Goals as goal

pub returns-then-i-a : goal.returns-then-i-a
returns-then-i-a c = simp (lt-ltb _ _ c.if-i-a.true)

pub returns : goal.returns
returns c = simp (le-ltb _ _ c.if-i-a.false)
