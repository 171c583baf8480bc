-- The promises of `specs/Promises.antt` about `check_text`, kept. T1 is the code's to keep.
use Rattle.text_judging.proofs.Promises.{checker_exact}
use Rattle.checker_spec.specs.Promises.{AllExact, CallersJudged, BuffersDoNotMatter, OldProofsCheck}
use Rattle.checker_spec.proofs.Exact.{all_exact_lem}
use Rattle.checker_spec.proofs.Callers.{callers_judged_lem, buffers_do_not_matter_lem}

-- T6: every judgement of a check is exact.
pub all_exact : AllExact
all_exact = all_exact_lem checker_exact

-- T6 holds for callers, in the numbers handed back.
pub callers_judged : CallersJudged
callers_judged = callers_judged_lem all_exact

-- T10: what the lent buffers held before changes nothing in the result or the text.
pub buffers_do_not_matter : BuffersDoNotMatter
buffers_do_not_matter = buffers_do_not_matter_lem

-- Request W-204: an old proof still checks.
pub old_proofs_check : OldProofsCheck
old_proofs_check bytes text table work table' work' r c s read h judged =
    ((callers_judged bytes text table work table' work' r c).accepts s read judged).1 h.spells
