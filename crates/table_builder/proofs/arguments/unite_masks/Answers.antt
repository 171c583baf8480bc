use lib.Bits.{or_lt}
use Rattle.table_builder.proofs.arguments.Laws.{masks_on, masks_end}
use mathlib.Core.Path.{refl, sym, ◌∙◌}
use borrow.Author.Rules.{rules}
use Rattle.table_builder.proofs.arguments.unite_masks.Goals as goal

pub loop-a-init : goal.loop-a-init
loop-a-init c = (search rules, refl)

pub loop-a-preserved : goal.loop-a-preserved
loop-a-preserved c = (
  or_lt 8 _ _ c.loop-a.invariant.0 c.mask-free.ensures.1,
  c.loop-a.invariant.1
      ∙ masks_on _ _ _ _ _ c.loop-a-test.true c.mask-free.ensures.0,
)

pub returns : goal.returns
returns c = (sym (c.loop-a.invariant.1 ∙ masks_end _ _ _ _ c.loop-a-test.false), c.loop-a.invariant.0)
