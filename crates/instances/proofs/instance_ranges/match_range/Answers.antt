use mathlib.Core.Path.{refl}
use Rattle.term_scanner.proofs.folded_ranges.Laws.{range_equal}
use Rattle.instances.proofs.instance_ranges.Laws.{range_there, range_differs, range_long}
use Rattle.instances.proofs.instance_ranges.match_range.Goals as goal

pub returns-then-same_range : goal.returns-then-same_range
returns-then-same_range c =
    range_there _ _ _ _ _ _ _ c.saturating_sub-left.ensures c.if-n-left.true
    (range_equal _ _ _ _ _ _ c.same_range.ensures c.if-same_range.true) refl

pub returns-then-same_folded : goal.returns-then-same_folded
returns-then-same_folded c =
    range_there _ _ _ _ _ _ _ c.saturating_sub-left.ensures c.if-n-left.true c.same_folded.ensures c.if-same_folded.true

pub returns-then-n-left : goal.returns-then-n-left
returns-then-n-left c =
    range_differs _ _ _ _ _ _ _ c.saturating_sub-left.ensures c.if-n-left.true c.same_folded.ensures c.if-same_folded.false

pub returns : goal.returns
returns c = range_long _ _ _ _ _ _ c.saturating_sub-left.ensures c.if-n-left.false
