use Rattle.checker_state.proofs.hypothesis_chains.Laws.{even_jumps_lem}
use Rattle.checker_state.proofs.hypothesis_chains.even_jumps.Goals as goal

pub returns : goal.returns
returns c =
    even_jumps_lem _ _ _ c.hypothesis_field-jump.ensures _ _ _ _ _ _ _ c.hypothesis_field-after.ensures
    c.hypothesis_field.ensures c.widen-here.ensures.0 c.hypothesis_field-2.ensures
    c.widen-middle.ensures.0 c.hypothesis_field-3.ensures c.widen-end.ensures.0
