use Rattle.std.proofs.Common.{◌∙◌}
use Rattle.term_scanner.proofs.Laws.{level_none, level_some}
use Rattle.term_scanner.proofs.scan_level.Goals as goal

pub returns-in_err-k : goal.returns-in_err-k
returns-in_err-k c = c.from_residual.ensures ∙ level_none _ _ _ c.scan_number.ensures c.in_err-k.was

pub returns : goal.returns
returns c = level_some _ _ _ _ _ c.scan_number.ensures c.in_ok-k.was
