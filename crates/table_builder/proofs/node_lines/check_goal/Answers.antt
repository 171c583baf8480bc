use Rattle.table_builder.specs.Nodes.{check_goal}
use borrow.Author.Tests.{le-leb, lt-leb}
use Rattle.table_builder.proofs.node_lines.check_goal.Goals as goal

pub returns-then-k-n : goal.returns-then-k-n
unfolding check_goal
returns-then-k-n c =
    simp (check_goal, le-leb _ _ c.if-k-n.true)

pub returns-then-is_goal : goal.returns-then-is_goal
unfolding check_goal
returns-then-is_goal c =
    simp (check_goal, c.if-is_goal.true, ← c.is_goal.ensures, lt-leb _ _ c.if-k-n.false)

pub returns : goal.returns
unfolding check_goal
returns c =
    simp (check_goal, c.if-is_goal.false, ← c.is_goal.ensures, lt-leb _ _ c.if-k-n.false)
