use Rattle.numbering_check.proofs.Laws.{cache_new, cache_old, count_new, count_old}
use Rattle.numbering_check.proofs.count_after.Goals as goal

pub returns-then-n-k : goal.returns-then-n-k
returns-then-n-k c = (
  count_new _ _ _ _ c.requires.0 c.if-n-k.true,
  cache_new _ _ _ _ _ _ _ _ c.requires.0 c.if-n-k.true c.level_at.ensures
      c.cache_level.ensures,
)

pub returns : goal.returns
returns c =
    (count_old _ _ _ _ c.requires.0 c.if-n-k.false, cache_old _ _ _ _ _ _ c.requires.0 c.if-n-k.false)
