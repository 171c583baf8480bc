use Rattle.std.proofs.Common.{◌∙◌, sym}
use Rattle.answer_printer.proofs.path_lines.Laws.{lines_end, lines_last, lines_on}
use Rattle.answer_printer.proofs.path_lines.lines_to.Goals as goal

pub returns-then-pointer-eq0 : goal.returns-then-pointer-eq0
returns-then-pointer-eq0 c = sym (c.loop-turn.invariant ∙ lines_last _ _ _ _ _ _ _ c.if-pointer-eq0.true)

pub loop-turn-preserved : goal.loop-turn-preserved
loop-turn-preserved c =
    c.loop-turn.invariant ∙ lines_on _ _ _ _ _ _ _ _ _ _ _ _ _ c.loop-turn-test.true c.if-pointer-eq0.false c.record_of-u.ensures
    c.field-next.ensures c.line_to-q.ensures

pub returns : goal.returns
returns c = sym (c.loop-turn.invariant ∙ lines_end _ _ _ _ _ _ _ _ c.loop-turn-test.false)
