use Rattle.std.proofs.Common.{◌∙◌}
use Rattle.term_scanner.proofs.Laws.{numeral_ended, numeral_longer, numeral_none}
use Rattle.term_scanner.proofs.scan_numeral.Goals as goal

pub returns-in_err-e : goal.returns-in_err-e
returns-in_err-e c = c.from_residual.ensures ∙ numeral_none _ _ _ c.scan_number.ensures c.in_err-e.was

pub returns-then-is_name_byte : goal.returns-then-is_name_byte
returns-then-is_name_byte c =
    numeral_longer _ _ _ _ _ c.scan_number.ensures c.in_ok-e.was _ c.byte.ensures _
    c.is_name_byte.ensures c.if-is_name_byte.true

pub returns : goal.returns
returns c =
    numeral_ended _ _ _ _ _ c.scan_number.ensures c.in_ok-e.was _ c.byte.ensures _
    c.is_name_byte.ensures c.if-is_name_byte.false
