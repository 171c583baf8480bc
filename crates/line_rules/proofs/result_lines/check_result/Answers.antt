use mathlib.Core.Path.{refl}
use Rattle.sheet_format.specs.Bytes.{ascii}
use Rattle.line_rules.proofs.result_lines.Laws.{opens_not, units_missing, open_right, open_many, open_none, open_long}
use Rattle.line_rules.proofs.result_lines.check_result.Goals as goal
use Rattle.line_rules.proofs.result_lines.check_result.Goals.{in_default-scan_number-via-in-Some-scan_number+then-j-line+then-n-ge1+else-n-le-MAX_BUDGET}
use Rattle.line_rules.proofs.result_lines.check_result.Goals.{in_default-scan_number-via-in-Some-scan_number+then-j-line+else-n-ge1}
use Rattle.line_rules.proofs.result_lines.check_result.Goals.{in_default-scan_number-via-in-Some-scan_number+else-j-line}
use Rattle.line_rules.proofs.result_lines.check_result.Goals.{in_default-scan_number-via-in_default-scan_number}

pub returns-in_default : goal.returns-in_default
unfolding ascii
returns-in_default c = λ w. opens_not _ _ _ _ _ _ _ _ _ c.after.ensures c.in_default.is (c.broken.ensures w)

pub returns-in-Some-scan_number : goal.returns-in-Some-scan_number
unfolding ascii
returns-in-Some-scan_number c =
    λ w. open_right _ _ _ _ _ _ _ _ _ c.after.ensures _ c.in-Some.is _ c.scan_number.ensures _ _ c.in-Some-scan_number.is
    _ refl c.if-j-line.true c.if-n-ge1.true c.if-n-le-MAX_BUDGET.true c.bound.ensures

pub returns-in_default-scan_number : goal.returns-in_default-scan_number
unfolding ascii
returns-in_default-scan_number c =
    λ w. elim c.in_default-scan_number.branch [
      | in_default-scan_number-via-in-Some-scan_number+then-j-line+then-n-ge1+else-n-le-MAX_BUDGET v ↦
          open_many _ _ _ _ _ _ _ _ _ c.after.ensures _ c.in-Some.is _ c.scan_number.ensures _ _ v.in-Some-scan_number.is
          v.if-j-line.true v.if-n-ge1.true v.if-n-le-MAX_BUDGET.false (c.broken-in_default-scan_number.ensures w)
      | in_default-scan_number-via-in-Some-scan_number+then-j-line+else-n-ge1 v ↦
          open_none _ _ _ _ _ _ _ _ _ c.after.ensures _ c.in-Some.is _ c.scan_number.ensures _ _ v.in-Some-scan_number.is
          v.if-j-line.true v.if-n-ge1.false (c.broken-in_default-scan_number.ensures w)
      | in_default-scan_number-via-in-Some-scan_number+else-j-line v ↦
          open_long _ _ _ _ _ _ _ _ _ c.after.ensures _ c.in-Some.is _ c.scan_number.ensures _ _ v.in-Some-scan_number.is
          v.if-j-line.false (c.broken-in_default-scan_number.ensures w)
      | in_default-scan_number-via-in_default-scan_number v ↦
          units_missing _ _ _ _ _ _ _ _ _ c.after.ensures _ c.in-Some.is _ c.scan_number.ensures v.in_default-scan_number.is
          (c.broken-in_default-scan_number.ensures w)
    ]
