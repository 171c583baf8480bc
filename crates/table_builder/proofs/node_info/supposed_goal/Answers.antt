use Rattle.table_builder.specs.Nodes.{supposed_goal}
use borrow.Author.Tests.{eq-eqb, ne_eqb}
use Rattle.table_builder.proofs.node_info.supposed_goal.Goals as goal

pub returns-then-members-ne0 : goal.returns-then-members-ne0
unfolding supposed_goal
returns-then-members-ne0 c =
    simp (supposed_goal, ← c.is_goal.ensures, ne_eqb _ _ c.if-members-ne0.true, ← c.members.ensures.0)

pub returns-else-members-ne0 : goal.returns-else-members-ne0
unfolding supposed_goal
returns-else-members-ne0 c = simp (supposed_goal, eq-eqb _ _ c.if-members-ne0.false, ← c.members.ensures.0)
