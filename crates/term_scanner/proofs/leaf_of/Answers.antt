use Rattle.std.proofs.Common.{◌∙◌}
use Rattle.term_scanner.proofs.Laws.{leaf_none, leaf_some}
use Rattle.term_scanner.proofs.leaf_of.Goals as goal

pub returns-in_err-e : goal.returns-in_err-e
returns-in_err-e c = c.from_residual.ensures ∙ leaf_none _ c.in_err-e.was

pub returns : goal.returns
returns c = leaf_some _ _ _ c.in_ok-e.was
