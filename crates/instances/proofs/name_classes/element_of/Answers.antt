use Rattle.instances.proofs.name_classes.Laws.{element_name_lem, element_node_lem}
use Rattle.instances.proofs.name_classes.element_of.Goals as goal

pub returns-then-kind-eq-VARIABLE : goal.returns-then-kind-eq-VARIABLE
returns-then-kind-eq-VARIABLE c = element_name_lem _ _ _ _ _ c.kind.ensures c.if-kind-eq-VARIABLE.true c.label.ensures

pub returns : goal.returns
returns c = element_node_lem _ _ _ _ c.kind.ensures c.if-kind-eq-VARIABLE.false
