use Rattle.numbering_check.proofs.first_levels.Laws.{level_none_at, level_past, level_some_at}
use Rattle.numbering_check.proofs.first_levels.level_at.Goals as goal

pub returns-in-Some : goal.returns-in-Some
returns-in-Some c =
    level_some_at _ _ _ _ _ _ c.scan_number.ensures c.in-Some.is c.number_after.ensures.0

pub returns-in-None : goal.returns-in-None
returns-in-None c = level_none_at _ _ _ c.scan_number.ensures c.in-None.is

pub returns : goal.returns
returns c = level_past _ _ c.if-i-text.false
