use Rattle.std.proofs.Common.{◌∙◌}
use Rattle.numbering_check.proofs.level_cache.Laws.{level_fits, level_large}
use Rattle.numbering_check.proofs.level_cache.cache_level.Goals as goal

pub returns-then-level-lt-NOT_CACHED : goal.returns-then-level-lt-NOT_CACHED
returns-then-level-lt-NOT_CACHED c = c.put_item.ensures ∙ level_fits _ _ _ c.if-level-lt-NOT_CACHED.true

pub returns-else-level-lt-NOT_CACHED : goal.returns-else-level-lt-NOT_CACHED
returns-else-level-lt-NOT_CACHED c = level_large _ _ _ c.if-level-lt-NOT_CACHED.false
