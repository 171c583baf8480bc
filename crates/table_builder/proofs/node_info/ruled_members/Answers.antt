use Rattle.table_builder.proofs.node_info.Laws.{ruled, unruled}
use Rattle.table_builder.proofs.node_info.ruled_members.Goals.{then-kind-eq-ATOM, else-kind-eq-ATOM}
use Rattle.table_builder.proofs.node_info.ruled_members.Goals as goal

pub returns : goal.returns
returns c =
    elim c.if-kind-eq-ATOM.branch [
      | then-kind-eq-ATOM w ↦ ruled _ _ _ _ _ _ _ c.kind.ensures w.if-kind-eq-ATOM.true w.both_goals.ensures w.from-is c.from.ensures
      | else-kind-eq-ATOM w ↦ unruled _ _ _ _ _ _ c.kind.ensures w.if-kind-eq-ATOM.false w.from-is c.from.ensures
    ]
