use Rattle.sheet_format.specs.Bytes.{ascii}
use Rattle.line_rules.proofs.connective_rules.Laws.{true_right, true_wrong}
use Rattle.line_rules.proofs.connective_rules.true_line.Goals as goal

pub returns-then-is_line : goal.returns-then-is_line
unfolding ascii
returns-then-is_line c = true_right _ _ _ _ _ _ c.is_line.ensures _ c.if-is_line.true c.next_sequent.ensures

pub returns : goal.returns
unfolding ascii
returns c = true_wrong _ _ _ _ _ _ c.is_line.ensures _ c.if-is_line.false (c.broken.ensures _)
