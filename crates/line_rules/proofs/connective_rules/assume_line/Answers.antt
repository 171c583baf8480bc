use Rattle.sheet_format.specs.Bytes.{ascii}
use Rattle.line_rules.proofs.connective_rules.Laws.{assume_right, assume_wrong}
use Rattle.line_rules.proofs.connective_rules.assume_line.Goals as goal

pub returns-then-is_line : goal.returns-then-is_line
unfolding ascii
returns-then-is_line c =
    assume_right _ _ _ _ _ _ _ _ _ c.is_line.ensures _ _ _ _ _ _ _ _ c.if-is_line.true c.child-clause.ensures
    c.child-goal.ensures c.start_after-start.ensures c.members.ensures.0
    c.links_after-links.ensures c.put_hypothesis.ensures c.put_links.ensures
    c.with_sequent.ensures

pub returns : goal.returns
unfolding ascii
returns c = assume_wrong _ _ _ _ _ _ _ _ _ c.is_line.ensures _ c.if-is_line.false (c.broken.ensures _)
