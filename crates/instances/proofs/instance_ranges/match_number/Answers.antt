use mathlib.Core.Path.{◌∙◌}
use Rattle.instances.proofs.instance_ranges.Laws.{number_equal, number_none, number_other}
use Rattle.instances.proofs.instance_ranges.match_number.Goals as goal

pub returns-in_err-m : goal.returns-in_err-m
returns-in_err-m c = c.from_residual.ensures ∙ number_none _ _ _ _ c.scan_number.ensures c.in_err-m.was

pub returns-then-m-n : goal.returns-then-m-n
returns-then-m-n c = number_equal _ _ _ _ c.scan_number.ensures _ _ c.in_ok-m.was c.if-m-n.true

pub returns : goal.returns
returns c = number_other _ _ _ _ c.scan_number.ensures _ _ c.in_ok-m.was c.if-m-n.false
