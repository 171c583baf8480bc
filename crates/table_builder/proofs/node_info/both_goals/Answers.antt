use Rattle.table_builder.specs.Nodes.{both_goals}
use Rattle.table_builder.proofs.node_info.both_goals.Goals as goal

pub returns-then-is_goal : goal.returns-then-is_goal
unfolding both_goals
returns-then-is_goal c =
    simp (both_goals, ← c.is_goal.ensures, c.if-is_goal.true, ← c.is_goal-then-is_goal.ensures)

pub returns-else-is_goal : goal.returns-else-is_goal
unfolding both_goals
returns-else-is_goal c = simp (both_goals, ← c.is_goal.ensures, c.if-is_goal.false)
