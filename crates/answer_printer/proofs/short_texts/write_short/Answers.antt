use Rattle.answer_printer.proofs.short_texts.Laws.{short_fits, short_unfit}
use Rattle.answer_printer.proofs.short_texts.write_short.Goals as goal

pub returns-then-limit-length : goal.returns-then-limit-length
returns-then-limit-length c =
    short_unfit _ _ _ _ _ _ c.text_limit-limit.ensures.0 c.append_result-length.ensures
    c.append_result-length.auto.own c.if-limit-length.true

pub returns : goal.returns
returns c =
    short_fits _ _ _ _ _ _ c.text_limit-limit.ensures.0 c.append_result-length.ensures
    c.append_result-length.auto.own _ c.if-limit-length.false c.append_result.ensures
