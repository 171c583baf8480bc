use borrow.Author.Tests.{eq-eqb, ne_eqb}
use native.Mathlib.Omega.{arith}
use Rattle.term_scanner.specs.Heads.{open_at}
use Rattle.term_scanner.proofs.ranges.Laws.{inside}
use Rattle.term_scanner.proofs.scan_open.Goals as goal

pub returns-then-n-eq0 : goal.returns-then-n-eq0
unfolding open_at
returns-then-n-eq0 c = simp (open_at, eq-eqb _ _ c.if-n-eq0.true)

pub overflow_add-result : goal.overflow_add-result
overflow_add-result c =
    omega (arith, inside c.args.text.now _ _ 40 c.byte.ensures c.if-byte-eq40.true (omega arith))

pub returns-then-byte-eq40 : goal.returns-then-byte-eq40
unfolding open_at
returns-then-byte-eq40 c = simp (open_at, eq-eqb _ _ c.if-byte-eq40.true, ← c.byte.ensures, ne_eqb _ _ c.if-n-eq0.false)

pub returns : goal.returns
unfolding open_at
returns c = simp (open_at, ne_eqb _ _ c.if-byte-eq40.false, ← c.byte.ensures, ne_eqb _ _ c.if-n-eq0.false)
