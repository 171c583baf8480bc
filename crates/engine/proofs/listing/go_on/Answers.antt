use Rattle.engine.proofs.listing.Laws.{goes}
use Rattle.engine.proofs.listing.go_on.Goals as goal

pub returns : goal.returns
returns c =
    goes _ _ _ _ _ _ _ _ _ _ c.saturating_sub-left.ensures c.clear_variables.ensures c.failed-s.ensures
    c.run_acts.ensures
