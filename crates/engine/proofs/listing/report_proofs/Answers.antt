use mathlib.Core.Path.{refl, ◌∙◌}
use Rattle.printing.specs.Writer.{own_bytes}
use Rattle.answer_printer.proofs.Laws.{room_both}
use Rattle.engine.proofs.listing.Laws.{reports}
use Rattle.engine.proofs.listing.report_proofs.Goals as goal

pub copy_out-n-requires : goal.copy_out-n-requires
unfolding own_bytes
copy_out-n-requires c =
    room_both _ _ _ c.text_limit-limit.ensures.0 c.text_limit-limit.ensures.1
    (c.write_last-at.auto.own ∙ c.write_proofs-p.auto.own)

pub returns : goal.returns
unfolding own_bytes
returns c =
    reports _ _ _ _ _ _ _ _ _ _ _ _ _ _ _ _ c.text_limit-limit.ensures.0 refl c.write_proofs-p.ensures.result_after
    c.write_last-at.ensures c.copy_out-n.ensures c.tell.ensures
