use Rattle.std.proofs.Common.{◌∙◌}
use Rattle.term_scanner.proofs.Laws.{symbol_none, symbol_some}
use Rattle.term_scanner.proofs.scan_symbol.Goals as goal

pub returns-in_err-e : goal.returns-in_err-e
returns-in_err-e c = c.from_residual.ensures ∙ symbol_none _ _ _ c.scan_number.ensures c.in_err-e.was

pub returns : goal.returns
returns c = symbol_some _ _ _ _ _ _ c.scan_number.ensures c.in_ok-e.was c.scan_at.ensures
