use Rattle.engine.proofs.Laws.{searched_once, searched_all}
use Rattle.engine.proofs.search.Goals as goal

pub returns-then-query-eq1 : goal.returns-then-query-eq1
returns-then-query-eq1 c =
    searched_once _ _ _ _ _ _ _ _ _ c.if-query-eq1.true c.run_machine-r.ensures c.report_outcome.ensures

pub returns : goal.returns
returns c =
    searched_all _ _ _ _ _ _ _ _ _ c.if-query-eq1.false c.run_machine-r.ensures c.report_proofs.ensures
