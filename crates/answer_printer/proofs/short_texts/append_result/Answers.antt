use Rattle.answer_printer.proofs.short_texts.Laws.{result_written}
use Rattle.answer_printer.proofs.short_texts.append_result.Goals as goal

pub returns : goal.returns
returns c =
    result_written _ _ _ _ _ _ _ _ _ _ c.write_bytes-to.ensures c.write_number-to.ensures
    c.emit.ensures
