use Rattle.checker_state.proofs.starts.Laws.{start_first, start_next}
use Rattle.checker_state.proofs.starts.start_after.Goals as goal

pub returns-then-h-eq0 : goal.returns-then-h-eq0
returns-then-h-eq0 c =
    start_first _ _ _ _ _ _ c.if-h-eq0.true c.sheet_members.ensures c.saturate.ensures

pub returns : goal.returns
returns c =
    start_next _ _ _ _ _ _ _ _ _ _ c.if-h-eq0.false c.field-start.ensures c.field-node.ensures
    c.members-count.ensures.0 c.widen.ensures.0 c.widen-2.ensures.0 c.saturate-2.ensures
