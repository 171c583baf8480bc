use mathlib.Core.Path.{sym}
use Rattle.term_scanner.proofs.folded_ranges.Laws.{folded_end, range_equal, one_same, last_apart}
use native.Mathlib.Omega.{arith}
use Rattle.term_scanner.proofs.symbol_names.is_spelled.Goals as goal

pub returns-then-n-eq0 : goal.returns-then-n-eq0
returns-then-n-eq0 c = let e = c.if-n-eq0.true in sym (folded_end _ _ _ _ _ (omega arith))

pub returns-then-n-eq1 : goal.returns-then-n-eq1
returns-then-n-eq1 c =
    one_same _ _ _ _ _ _ _ _ _ c.requires.0 c.if-n-eq1.true c.byte.ensures
    c.byte-2.ensures c.same_letter.ensures c.if-same_letter.true

pub returns-then-same_range : goal.returns-then-same_range
returns-then-same_range c = range_equal _ _ _ _ _ _ c.same_range.ensures c.if-same_range.true

pub returns : goal.returns
returns c =
    last_apart _ _ _ _ _ _ _ _ _ c.requires.0 c.if-n-eq0.false c.byte.ensures
    c.byte-2.ensures c.same_letter.ensures c.if-same_letter.false
