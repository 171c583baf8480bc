use Rattle.instances.proofs.name_classes.Laws.{element_child_lem}
use Rattle.instances.proofs.name_classes.child_of.Goals as goal

pub returns : goal.returns
returns c = element_child_lem _ _ _ _ _ c.child.ensures c.element_of.ensures
