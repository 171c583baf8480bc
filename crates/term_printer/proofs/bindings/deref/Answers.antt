use Rattle.std.proofs.Common.{◌∙◌, sym}
use Rattle.term_printer.proofs.bindings.Laws.{deref_last, deref_next}
use Rattle.printing.proofs.Bindings.{deref_free, deref_other}
use Rattle.term_printer.proofs.bindings.deref.Goals as goal

pub returns-then-tag_of-ne-VARIABLE : goal.returns-then-tag_of-ne-VARIABLE
returns-then-tag_of-ne-VARIABLE c = sym (c.loop-turn.invariant ∙ deref_other _ _ _ _ c.tag_of.ensures c.if-tag_of-ne-VARIABLE.true)

pub returns-then-tag_of-eq0 : goal.returns-then-tag_of-eq0
returns-then-tag_of-eq0 c =
    sym (c.loop-turn.invariant ∙ deref_free _ _ _ _ _ _ _ c.tag_of.ensures c.if-tag_of-ne-VARIABLE.false
    c.name_of.ensures c.cell_of-b.ensures c.tag_of-in-loop-turn.ensures c.if-tag_of-eq0.true)

pub loop-turn-preserved : goal.loop-turn-preserved
loop-turn-preserved c =
    c.loop-turn.invariant ∙ deref_next _ _ _ _ _ _ _ _ c.loop-turn-test.true c.tag_of.ensures c.if-tag_of-ne-VARIABLE.false
    c.name_of.ensures c.cell_of-b.ensures c.tag_of-in-loop-turn.ensures c.if-tag_of-eq0.false

pub returns : goal.returns
returns c = sym (c.loop-turn.invariant ∙ deref_last _ _ _ _ c.loop-turn-test.false)
