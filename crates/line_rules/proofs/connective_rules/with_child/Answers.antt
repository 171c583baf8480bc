use Rattle.line_rules.proofs.connective_rules.Laws.{child_due}
use Rattle.line_rules.proofs.connective_rules.with_child.Goals as goal

pub returns : goal.returns
returns c = child_due _ _ _ _ _ c.child.ensures c.with_sequent.ensures
