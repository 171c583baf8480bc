use Rattle.numbering_check.proofs.first_levels.Laws.{first_from}
use Rattle.numbering_check.proofs.first_levels.first_level.Goals as goal

pub returns : goal.returns
returns c = first_from _ _ _ _ c.level_from.ensures
