use Rattle.numbering_check.proofs.first_levels.Laws.{number_none_at, number_some_at}
use Rattle.numbering_check.proofs.first_levels.number_at.Goals as goal

pub returns-in-Some : goal.returns-in-Some
returns-in-Some c = number_some_at _ _ _ _ _ c.scan_number.ensures c.in-Some.is

pub returns-in-None : goal.returns-in-None
returns-in-None c = number_none_at _ _ _ c.scan_number.ensures c.in-None.is
