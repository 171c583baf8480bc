use Rattle.checker_state.proofs.open_sequents.Laws.{sequent_due}
use Rattle.checker_state.proofs.open_sequents.open_sequent.Goals as goal

pub returns : goal.returns
returns c =
    sequent_due _ _ _ _ _ _ _ _ _ c.field-node.ensures c.field-frame.ensures c.field-hypotheses.ensures
    c.field-level.ensures c.field-next.ensures c.with_sequent.ensures
