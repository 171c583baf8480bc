use Rattle.checker_state.proofs.hypothesis_chains.Laws.{links_far, links_near}
use Rattle.checker_state.proofs.hypothesis_chains.links_after.Goals as goal

pub returns-then-even_jumps : goal.returns-then-even_jumps
returns-then-even_jumps c =
    links_far _ _ _ _ _ _ _ c.hypothesis_field.ensures c.widen.ensures.0
    c.saturate-depth.ensures c.even_jumps.ensures _ _ _ _ _ _ _ _ c.if-even_jumps.true
    c.hypothesis_field-jump.ensures c.hypothesis_field-then-even_jumps.ensures c.widen-first.ensures.0
    c.hypothesis_field-then-even_jumps-2.ensures c.widen-second.ensures.0 c.hypothesis_field-then-even_jumps-3.ensures
    c.widen-then-even_jumps.ensures.0 c.saturate.ensures

pub returns : goal.returns
returns c =
    links_near _ _ _ _ _ _ _ c.hypothesis_field.ensures c.widen.ensures.0
    c.saturate-depth.ensures c.even_jumps.ensures _ _ c.if-even_jumps.false c.widen-2.ensures.0
    c.saturate-2.ensures
