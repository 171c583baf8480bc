use Rattle.instances.proofs.brief_comparisons.Laws.{name_long, name_short}
use Rattle.instances.proofs.brief_comparisons.brief_name.Goals as goal

pub returns-then-size-gt-BRIEF_BYTES : goal.returns-then-size-gt-BRIEF_BYTES
returns-then-size-gt-BRIEF_BYTES c =
    name_long _ _ _ _ _ _ _ _ _ _ _ c.range_of.ensures.0 c.range_of.ensures.1 c.size-size.ensures c.if-size-gt-BRIEF_BYTES.true

pub returns : goal.returns
returns c =
    name_short _ _ _ _ _ _ _ _ _ _ _ c.range_of.ensures.0 c.range_of.ensures.1 c.size-size.ensures _ c.if-size-gt-BRIEF_BYTES.false
    c.same_name.ensures
