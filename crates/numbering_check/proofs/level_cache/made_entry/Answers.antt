use mathlib.Core.Path.{◌∙◌}
use Rattle.numbering_check.proofs.level_cache.Laws.{made_kept, made_past}
use Rattle.numbering_check.proofs.level_cache.made_entry.Goals as goal

pub returns-then-widen-size : goal.returns-then-widen-size
returns-then-widen-size c =
    c.widen-then-widen-size.ensures.0 ∙ made_kept _ _ _ _ _ c.widen.ensures.0 c.widen-2.ensures.0 c.if-widen-size.true

pub returns : goal.returns
returns c = made_past _ _ _ _ _ c.widen.ensures.0 c.widen-2.ensures.0 c.if-widen-size.false
