use Rattle.numbering_check.proofs.first_levels.Laws.{showing_here, showing_inside, showing_other}
use Rattle.numbering_check.proofs.first_levels.is_showing.Goals as goal

pub returns-then-is_symbol : goal.returns-then-is_symbol
returns-then-is_symbol c =
    showing_here _ _ _ _ _ _ _ c.byte.ensures c.if-byte-c.true c.is_symbol.ensures
    c.if-is_symbol.true c.number_after-m.ensures.0

pub returns-then-byte-c : goal.returns-then-byte-c
returns-then-byte-c c =
    showing_inside _ _ _ _ _ _ c.byte.ensures c.if-byte-c.true c.is_symbol.ensures
    c.if-is_symbol.false

pub returns : goal.returns
returns c = showing_other _ _ _ _ _ c.byte.ensures c.if-byte-c.false
