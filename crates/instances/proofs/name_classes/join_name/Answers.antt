use Rattle.instances.proofs.name_classes.Laws.{join_same, join_other}
use Rattle.instances.proofs.name_classes.join_name.Goals as goal

pub returns-then-same_name : goal.returns-then-same_name
returns-then-same_name c =
    join_same _ _ _ _ _ _ _ _ _ _ _ _ c.same_name.ensures c.if-same_name.true
    c.widen.ensures.0 c.put.ensures

pub returns : goal.returns
returns c = join_other _ _ _ _ _ _ _ _ _ _ c.same_name.ensures c.if-same_name.false
