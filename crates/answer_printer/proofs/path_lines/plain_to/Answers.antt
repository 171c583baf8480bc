use Rattle.std.proofs.Common.{arith}
use Rattle.sheet_format.specs.Bytes.{ascii}
use Rattle.printing.specs.WriteLines.{plain_bytes}
use Rattle.answer_printer.proofs.path_lines.Laws.{plain_kind, plain_assume}
use Rattle.answer_printer.proofs.path_lines.plain_to.Goals as goal

pub returns-in-0 : goal.returns-in-0
unfolding ascii plain_bytes
returns-in-0 c = λ m. plain_kind _ _ _ _ _ c.in-0.is (c.bytes_to.ensures m)

pub returns-in-1 : goal.returns-in-1
unfolding ascii plain_bytes
returns-in-1 c = λ m. plain_kind _ _ _ _ _ c.in-1.is (c.bytes_to-in-1.ensures m)

pub returns-in-2 : goal.returns-in-2
unfolding ascii plain_bytes
returns-in-2 c = λ m. plain_kind _ _ _ _ _ c.in-2.is (c.bytes_to-in-2.ensures m)

pub returns-in-3 : goal.returns-in-3
unfolding ascii plain_bytes
returns-in-3 c = λ m. plain_kind _ _ _ _ _ c.in-3.is (c.bytes_to-in-3.ensures m)

pub returns-in_default : goal.returns-in_default
unfolding ascii
returns-in_default c = λ m. plain_assume _ _ _ _ (omega arith) (c.bytes_to-in_default.ensures m)
