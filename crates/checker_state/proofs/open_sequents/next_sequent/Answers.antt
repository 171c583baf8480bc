use Rattle.checker_state.proofs.open_sequents.Laws.{all_done, next_due}
use Rattle.checker_state.proofs.open_sequents.next_sequent.Goals as goal

pub returns-then-rest-eq0 : goal.returns-then-rest-eq0
returns-then-rest-eq0 c = all_done _ _ _ c.if-rest-eq0.true c.with_stage.ensures

pub returns : goal.returns
returns c = next_due _ _ _ c.if-rest-eq0.false c.open_sequent.ensures
