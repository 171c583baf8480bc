use Rattle.sheet_format.specs.Bytes.{ascii}
use Rattle.answer_printer.proofs.binding_lines.Laws.{binding_none, binding_some}
use Rattle.answer_printer.proofs.binding_lines.binding_to.Goals as goal

pub returns-then-bit-ne1 : goal.returns-then-bit-ne1
unfolding ascii
returns-then-bit-ne1 c = binding_none _ _ _ c.if-bit-ne1.true

pub returns : goal.returns
unfolding ascii
returns c =
    binding_some _ _ _ _ _ _ _ _ _ _ _ _
    c.if-bit-ne1.false
    (c.bytes_to-q.ensures _)
    (c.number_to-q.ensures _)
    (c.bytes_to-q-2.ensures _)
    c.variable_word.ensures c.last_term.ensures
