use Rattle.sheet_format.specs.Bytes.{ascii}
use Rattle.line_rules.proofs.connective_rules.Laws.{and_right, and_wrong}
use Rattle.line_rules.proofs.connective_rules.and_line.Goals as goal

pub returns-then-is_line : goal.returns-then-is_line
unfolding ascii
returns-then-is_line c =
    and_right _ _ _ _ _ _ _ _ c.is_line.ensures _ _ _ _ c.if-is_line.true c.child-left.ensures
    c.child-right.ensures c.put_sequent.ensures c.with_sequent.ensures

pub returns : goal.returns
unfolding ascii
returns c = and_wrong _ _ _ _ _ _ _ _ c.is_line.ensures _ c.if-is_line.false (c.broken.ensures _)
