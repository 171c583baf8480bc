use Rattle.sheet_format.specs.Bytes.{ascii}
use Rattle.line_rules.proofs.connective_rules.Laws.{or_left, or_right, or_wrong}
use Rattle.line_rules.proofs.connective_rules.or_line.Goals as goal

pub returns-then-is_line : goal.returns-then-is_line
unfolding ascii
returns-then-is_line c = λ w. or_left _ _ _ _ _ _ _ c.is_line.ensures _ c.if-is_line.true c.with_child.ensures

pub returns-then-is_line-2 : goal.returns-then-is_line-2
unfolding ascii
returns-then-is_line-2 c =
    λ w. or_right _ _ _ _ _ _ _ c.is_line.ensures _ c.is_line-2.ensures _ c.if-is_line.false
    c.if-is_line-2.true c.with_child-then-is_line-2.ensures

pub returns : goal.returns
unfolding ascii
returns c =
    λ w. or_wrong _ _ _ _ _ _ _ c.is_line.ensures _ c.is_line-2.ensures _ c.if-is_line.false
    c.if-is_line-2.false (c.broken.ensures w)
