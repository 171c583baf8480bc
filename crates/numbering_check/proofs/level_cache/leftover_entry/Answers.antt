use Prim.Native.Nat.{ℕ, ◌+◌, ◌-◌}
use mathlib.Core.Path.{◌∙◌, ap}
use lib.ListN.{length}
use Rattle.numbering_check.proofs.level_cache.Laws.{leftover_kept, leftover_past}
use Rattle.numbering_check.proofs.level_cache.leftover_entry.Goals as goal

pub returns-then-widen-size : goal.returns-then-widen-size
returns-then-widen-size c =
    ap (λ (n : ℕ). length c.args.levels.now - (n + 1)) c.widen-then-widen-size.ensures.0
    ∙ leftover_kept _ _ _ _ _ c.widen.ensures.0 c.widen-2.ensures.0 c.if-widen-size.true

pub returns : goal.returns
returns c = leftover_past _ _ _ _ _ c.widen.ensures.0 c.widen-2.ensures.0 c.if-widen-size.false
