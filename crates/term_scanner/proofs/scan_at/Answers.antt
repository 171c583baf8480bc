use Rattle.term_scanner.proofs.Laws.{sigil_here, sigil_none}
use Rattle.term_scanner.proofs.ranges.Laws.{inside}
use native.Mathlib.Omega.{arith}
use Rattle.term_scanner.proofs.scan_at.Goals as goal

pub overflow_add-i : goal.overflow_add-i
overflow_add-i c =
    omega (arith, inside c.args.text.now _ _ 64 c.byte.ensures c.if-byte-eq64.true (omega arith))

pub returns-then-byte-eq64 : goal.returns-then-byte-eq64
returns-then-byte-eq64 c = sigil_here _ _ _ _ c.byte.ensures c.if-byte-eq64.true c.scan_level.ensures

pub returns : goal.returns
returns c = sigil_none _ _ _ c.byte.ensures c.if-byte-eq64.false
