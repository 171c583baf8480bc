use Rattle.std.proofs.Common.{arith}
use Rattle.sheet_format.specs.Bytes.{ascii}
use Rattle.answer_printer.proofs.path_lines.Laws.{line_all, line_clause, line_plain, line_some}
use Rattle.answer_printer.proofs.path_lines.line_to.Goals as goal

pub returns-in-0 : goal.returns-in-0
returns-in-0 c = line_plain _ _ _ _ _ _ _ _ _ _ (omega arith) (c.plain_to.ensures _)

pub returns-in-5 : goal.returns-in-5
unfolding ascii
returns-in-5 c =
    line_some _ _ _ _ _ _ _ _ _ _ _ _ _ c.in-5.is c.field.ensures c.variable_word-a.ensures (c.bytes_to-q.ensures _) c.last_term.ensures

pub returns-in-6 : goal.returns-in-6
unfolding ascii
returns-in-6 c =
    line_all _ _ _ _ _ _ _ _ _ _ _ _ c.in-6.is c.constant_word.ensures (c.bytes_to-q-in-6.ensures _) c.last_term-in-6.ensures

pub returns-in_default : goal.returns-in_default
returns-in_default c = line_clause _ _ _ _ _ _ _ _ _ _ (omega arith) c.clause_to.ensures
