use Rattle.checker_state.proofs.hypothesis_chains.Laws.{step_jump, step_next}
use Rattle.checker_state.proofs.hypothesis_chains.step_before.Goals as goal

pub returns-then-k-hypothesis_field : goal.returns-then-k-hypothesis_field
returns-then-k-hypothesis_field c =
    step_jump _ _ _ c.hypothesis_field-jump.ensures _ _ c.hypothesis_field.ensures c.if-k-hypothesis_field.true

pub returns : goal.returns
returns c =
    step_next _ _ _ c.hypothesis_field-jump.ensures _ _ c.hypothesis_field.ensures _
    c.if-k-hypothesis_field.false c.hypothesis_field-2.ensures
