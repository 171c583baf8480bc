use Rattle.line_rules.proofs.quantifier_rules.Laws.{goal_bound}
use Rattle.line_rules.proofs.quantifier_rules.bind_goal.Goals as goal

pub returns : goal.returns
returns c =
    goal_bound _ _ _ _ _ _ _ _ _ _ _ c.label-name.ensures
    c.child-goal.ensures c.bind_frame.ensures
    c.with_sequent.ensures
