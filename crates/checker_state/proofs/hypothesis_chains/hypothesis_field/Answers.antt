use Rattle.checker_state.proofs.hypothesis_chains.Laws.{field_none, field_some}
use Rattle.checker_state.proofs.hypothesis_chains.hypothesis_field.Goals as goal

pub returns-then-h-eq0 : goal.returns-then-h-eq0
returns-then-h-eq0 c = field_none _ _ _ c.if-h-eq0.true

pub returns : goal.returns
returns c = field_some _ _ _ _ c.if-h-eq0.false c.field.ensures
