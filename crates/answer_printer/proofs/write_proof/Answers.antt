use Rattle.answer_printer.proofs.Laws.{proof_written, room_both}
use Rattle.printing.specs.Writer.{own_bytes}
use Rattle.answer_printer.proofs.write_proof.Goals as goal

pub copy_out-requires : goal.copy_out-requires
unfolding own_bytes
copy_out-requires c =
    room_both _ _ _ c.text_limit-limit.ensures.0 c.text_limit-limit.ensures.1
    c.append_text-at.auto.own

pub returns : goal.returns
unfolding own_bytes
returns c =
    proof_written _ _ _ _ _ _ _ _ _ _ _ _ _ c.text_limit-limit.ensures.0 c.append_text-at.ensures
    c.copy_out.ensures
