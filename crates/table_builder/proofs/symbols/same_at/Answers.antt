use Rattle.table_builder.proofs.symbols.Laws.{same_on, same_off, same_end, same_none}
use mathlib.Core.Path.{sym, ◌∙◌}
use Rattle.table_builder.proofs.symbols.same_at.Goals as goal

pub loop-i-init : goal.loop-i-init
loop-i-init c = same_none _ _ _

pub returns-then-not-same_byte : goal.returns-then-not-same_byte
returns-then-not-same_byte c =
    sym (c.loop-i.invariant
    ∙ same_off _ _ _ _ _ _ c.loop-i-test.true c.byte-b.ensures c.same_byte.ensures c.if-not-same_byte.true)

pub loop-i-preserved : goal.loop-i-preserved
loop-i-preserved c =
    c.loop-i.invariant
    ∙ same_on _ _ _ _ _ _ c.loop-i-test.true c.byte-b.ensures c.same_byte.ensures c.if-not-same_byte.false

pub returns : goal.returns
returns c = sym (c.loop-i.invariant ∙ same_end _ _ _ _ c.loop-i-test.false)
