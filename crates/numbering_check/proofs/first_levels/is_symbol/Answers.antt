use Rattle.numbering_check.proofs.first_levels.Laws.{symbol_leftover, symbol_made, symbol_none}
use Rattle.numbering_check.proofs.first_levels.is_symbol.Goals as goal

pub returns-then-b-eq33 : goal.returns-then-b-eq33
returns-then-b-eq33 c = symbol_made _ _ _ c.byte-b.ensures c.if-b-eq33.true

pub returns-then-b-eq95 : goal.returns-then-b-eq95
returns-then-b-eq95 c =
    symbol_leftover _ _ _ _ c.byte-b.ensures c.if-b-eq33.false c.if-b-eq95.true
    c.outside_name.ensures

pub returns : goal.returns
returns c = symbol_none _ _ _ c.byte-b.ensures c.if-b-eq33.false c.if-b-eq95.false
