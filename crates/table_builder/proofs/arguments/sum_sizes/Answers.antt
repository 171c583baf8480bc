use Rattle.table_builder.proofs.arguments.Laws.{sizes_on, sizes_end}
use mathlib.Core.Path.{refl, sym, ◌∙◌}
use borrow.Author.Rules.{rules}
use Rattle.table_builder.proofs.arguments.sum_sizes.Goals as goal

pub loop-a-init : goal.loop-a-init
loop-a-init c = (search rules, refl)

pub loop-a-preserved : goal.loop-a-preserved
loop-a-preserved c = (
  search rules,
  c.loop-a.invariant.1
      ∙ sizes_on _ _ _ _ _ c.loop-a-test.true c.size-sum.ensures.0,
)

pub returns : goal.returns
returns c = sym (c.loop-a.invariant.1 ∙ sizes_end _ _ _ _ c.loop-a-test.false)
