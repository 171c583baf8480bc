use Rattle.table_builder.proofs.symbols.Laws.{find_here, find_on, find_end, find_first}
use mathlib.Core.Path.{sym, ◌∙◌}
use Rattle.table_builder.proofs.symbols.find_name.Goals as goal

pub loop-i-init : goal.loop-i-init
loop-i-init c = find_first _ _ _ _ _

pub returns-then-name_is : goal.returns-then-name_is
returns-then-name_is c =
    sym (c.loop-i.invariant
    ∙ find_here _ _ _ _ _ _ _ c.loop-i-test.true c.name_is.ensures c.if-name_is.true)

pub loop-i-preserved : goal.loop-i-preserved
loop-i-preserved c =
    c.loop-i.invariant
    ∙ find_on _ _ _ _ _ _ _ c.loop-i-test.true c.name_is.ensures c.if-name_is.false

pub returns : goal.returns
returns c = sym (c.loop-i.invariant ∙ find_end _ _ _ _ _ _ c.loop-i-test.false)
