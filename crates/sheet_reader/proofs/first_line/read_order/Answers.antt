use mathlib.Core.Path.{sym, ◌∙◌}
use Rattle.sheet_reader.specs.FirstLine.{read_order}
use Rattle.sheet_reader.proofs.first_line.read_order.Goals as goal

pub returns-then-begins_with_order : goal.returns-then-begins_with_order
unfolding read_order
returns-then-begins_with_order c =
    rw c.put_order.ensures (simp (sym c.begins_with_order.ensures ∙ c.if-begins_with_order.true))

pub returns : goal.returns
unfolding read_order
returns c =
    rw c.put_order-2.ensures (simp (sym c.begins_with_order.ensures ∙ c.if-begins_with_order.false))
