use Rattle.std.proofs.Common.{◌∙◌}
use Rattle.numbering_check.proofs.Laws.{known_kept}
use Rattle.numbering_check.proofs.known_level.Goals as goal

pub returns-then-entry-gt0 : goal.returns-then-entry-gt0
returns-then-entry-gt0 c =
    known_kept _ _ _ c.requires (c.from-entry.ensures ∙ c.item_or.ensures) c.if-entry-gt0.true
