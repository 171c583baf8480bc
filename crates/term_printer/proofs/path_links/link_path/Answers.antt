use Rattle.std.proofs.Common.{◌∙◌, sym}
use Rattle.term_printer.proofs.path_links.Laws.{link_end, link_first, link_on}
use Rattle.term_printer.proofs.path_links.link_path.Goals as goal

pub returns-then-pointer-eq0 : goal.returns-then-pointer-eq0
returns-then-pointer-eq0 c = sym (c.loop-turn.invariant ∙ link_first _ _ _ _ _ c.if-pointer-eq0.true)

pub loop-turn-preserved : goal.loop-turn-preserved
loop-turn-preserved c =
    c.loop-turn.invariant ∙ link_on _ _ _ _ _ _ _ _ _ _ _ c.loop-turn-test.true c.if-pointer-eq0.false c.record_of-u.ensures
    c.field-before.ensures c.field-which.ensures c.put_field.ensures c.link_word-link.ensures

pub returns : goal.returns
returns c = sym (c.loop-turn.invariant ∙ link_end _ _ _ _ _ _ c.loop-turn-test.false)
