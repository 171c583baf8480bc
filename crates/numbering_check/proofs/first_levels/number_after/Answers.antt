use Rattle.numbering_check.proofs.first_levels.Laws.{number_past}
use Rattle.numbering_check.proofs.first_levels.number_after.Goals as goal

pub returns : goal.returns
returns c = number_past _ _ c.if-i-text.false
