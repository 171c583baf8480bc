use Rattle.sheet_format.specs.Bytes.{ascii}
use Rattle.line_rules.proofs.clause_rules.Laws.{clause_begun, clause_wrong, place_missing, place_nowhere, terms_wrong, terms_used, terms_more}
use Rattle.line_rules.proofs.clause_rules.clause_line.Goals as goal
use Rattle.line_rules.proofs.clause_rules.clause_line.Goals.{in_default-prefix_from-via-in-Some-prefix_from+else-j-line}
use Rattle.line_rules.proofs.clause_rules.clause_line.Goals.{in_default-prefix_from-via-in_default-prefix_from}

pub returns-in_default : goal.returns-in_default
unfolding ascii
returns-in_default c = clause_wrong _ _ _ _ _ _ _ _ _ _ _ _ c.after.ensures c.in_default.is (c.broken.ensures _)

pub returns-in_default-scan_number : goal.returns-in_default-scan_number
unfolding ascii
returns-in_default-scan_number c =
    clause_begun _ _ _ _ _ _ _ _ _ _ _ _ c.after.ensures _ c.in-Some.is
    (place_missing _ _ _ _ _ _ _ _ _ _ _ _ c.scan_number.ensures c.in_default-scan_number.is
    (c.broken-in_default-scan_number.ensures _))

pub returns-in_default-place_at : goal.returns-in_default-place_at
unfolding ascii
returns-in_default-place_at c =
    clause_begun _ _ _ _ _ _ _ _ _ _ _ _ c.after.ensures _ c.in-Some.is
    (place_nowhere _ _ _ _ _ _ _ _ _ _ _ _ c.scan_number.ensures _ _ c.in-Some-scan_number.is _ c.place_at.ensures
    c.in_default-place_at.is (c.broken-in_default-place_at.ensures _))

pub returns-in-Some-prefix_from : goal.returns-in-Some-prefix_from
unfolding ascii
returns-in-Some-prefix_from c =
    clause_begun _ _ _ _ _ _ _ _ _ _ _ _ c.after.ensures _ c.in-Some.is
    (terms_used _ _ _ _ _ _ _ _ _ _ _ _ c.scan_number.ensures _ _ c.in-Some-scan_number.is _ c.place_at.ensures _ _ _
    c.in-Some-place_at.is _ _ _ _ c.member-m.ensures c.copy_ranges.ensures c.prefix_from.ensures
    _ _ c.in-Some-prefix_from.is c.if-j-line.true c.use_member.ensures)

pub returns-in_default-prefix_from : goal.returns-in_default-prefix_from
unfolding ascii
returns-in_default-prefix_from c =
    let broke = c.broken-in_default-prefix_from.ensures c.prefix_from.new.w in
    clause_begun _ _ _ _ _ _ _ _ _ _ _ _ c.after.ensures _ c.in-Some.is
    (elim c.in_default-prefix_from.branch [
      | in_default-prefix_from-via-in-Some-prefix_from+else-j-line w ↦
          terms_more _ _ _ _ _ _ _ _ _ _ _ _ c.scan_number.ensures _ _ c.in-Some-scan_number.is _ c.place_at.ensures _ _ _
          c.in-Some-place_at.is _ _ _ _ c.member-m.ensures c.copy_ranges.ensures c.prefix_from.ensures
          _ _ w.in-Some-prefix_from.is w.if-j-line.false broke
      | in_default-prefix_from-via-in_default-prefix_from w ↦
          terms_wrong _ _ _ _ _ _ _ _ _ _ _ _ c.scan_number.ensures _ _ c.in-Some-scan_number.is _ c.place_at.ensures _ _ _
          c.in-Some-place_at.is _ _ _ _ c.member-m.ensures c.copy_ranges.ensures c.prefix_from.ensures
          w.in_default-prefix_from.is broke
    ])
