use Rattle.sheet_format.specs.Bytes.{ascii}
use Rattle.answer_printer.proofs.Laws.{pass_written}
use Rattle.answer_printer.proofs.proof_pass.Goals as goal

pub returns : goal.returns
unfolding ascii
returns c =
    pass_written _ _ _ _ _ _ _ _ _ _ _ _ c.mask-bits.ensures.0 (c.result_to-q.ensures _)
    c.bindings_to-q.ensures c.lines_to.ensures
