use Rattle.std.proofs.Common.{◌++◌, List, ℕ, ap, drop}
use Rattle.answer_printer.proofs.Laws.{copied_unfit, copied_front}
use Rattle.answer_printer.proofs.copy_out.Goals as goal

pub returns-then-room : goal.returns-then-room
returns-then-room c = copied_unfit _ _ _ _ c.if-room.true

pub returns : goal.returns
returns c =
    copied_front _ _ _ _ _ _ c.if-room.false c.widen-n.ensures.0
    (ap (λ (l : List ℕ). l ++ drop c.widen-n.result c.args.out.now) c.copy_from_slice.ensures.after)
