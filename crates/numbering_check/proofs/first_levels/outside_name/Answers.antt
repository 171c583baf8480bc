use Rattle.numbering_check.proofs.first_levels.Laws.{outside_first, outside_in, outside_out}
use Rattle.numbering_check.proofs.first_levels.outside_name.Goals as goal

pub returns-then-i-eq0 : goal.returns-then-i-eq0
returns-then-i-eq0 c = outside_first _ _ c.if-i-eq0.true

pub returns-then-is_name_byte : goal.returns-then-is_name_byte
returns-then-is_name_byte c =
    outside_in _ _ _ _ c.if-i-eq0.false c.byte.ensures c.is_name_byte.ensures
    c.if-is_name_byte.true

pub returns : goal.returns
returns c =
    outside_out _ _ _ _ c.if-i-eq0.false c.byte.ensures c.is_name_byte.ensures
    c.if-is_name_byte.false
