use Rattle.numbering_check.proofs.Laws.{order_known, order_new, order_none, order_old}
use Rattle.numbering_check.proofs.in_order.Goals as goal

pub returns-then-n-k : goal.returns-then-n-k
returns-then-n-k c = order_new _ _ _ _ c.requires.0 c.if-n-k.true

pub known_level-first-requires : goal.known_level-first-requires
known_level-first-requires c =
    order_known _ _ _ _ _ c.byte.ensures c.requires.1

pub returns-then-n-k-2 : goal.returns-then-n-k-2
returns-then-n-k-2 c =
    order_old _ _ _ _ _ _ _ c.requires.0 c.if-n-k.false c.if-n-k-2.true c.byte.ensures
    c.known_level-first.ensures c.level_at-here.ensures

pub returns : goal.returns
returns c = order_none _ _ _ _ c.requires.0 c.if-n-k.false c.if-n-k-2.false
