use Rattle.sheet_format.specs.Bytes.{ascii}
use Rattle.line_rules.proofs.quantifier_rules.Laws.{some_wrong, some_right, some_high, some_long, term_missing}
use Rattle.line_rules.proofs.quantifier_rules.some_line.Goals as goal
use Rattle.line_rules.proofs.quantifier_rules.some_line.Goals.{in_default-scan_term-via-in-Some-scan_term+then-j-line+else-k-r}
use Rattle.line_rules.proofs.quantifier_rules.some_line.Goals.{in_default-scan_term-via-in-Some-scan_term+else-j-line, in_default-scan_term-via-in_default-scan_term}

pub returns-in_default : goal.returns-in_default
unfolding ascii
returns-in_default c = some_wrong _ _ _ _ _ _ _ _ _ _ _ c.after.ensures c.in_default.is (c.broken.ensures _)

pub returns-in-Some-scan_term : goal.returns-in-Some-scan_term
unfolding ascii
returns-in-Some-scan_term c =
    some_right _ _ _ _ _ _ _ _ _ _ _ c.after.ensures _ c.in-Some.is _ c.scan_term.ensures _ _ c.in-Some-scan_term.is
    c.if-j-line.true c.if-k-r.true c.bind_goal.ensures

pub returns-in_default-scan_term : goal.returns-in_default-scan_term
unfolding ascii
returns-in_default-scan_term c =
    let broke = c.broken-in_default-scan_term.ensures c.args.w.now in
    elim c.in_default-scan_term.branch [
      | in_default-scan_term-via-in-Some-scan_term+then-j-line+else-k-r w ↦
          some_high _ _ _ _ _ _ _ _ _ _ _ c.after.ensures _ c.in-Some.is _ c.scan_term.ensures _ _ w.in-Some-scan_term.is
          w.if-j-line.true w.if-k-r.false broke
      | in_default-scan_term-via-in-Some-scan_term+else-j-line w ↦
          some_long _ _ _ _ _ _ _ _ _ _ _ c.after.ensures _ c.in-Some.is _ c.scan_term.ensures _ _ w.in-Some-scan_term.is
          w.if-j-line.false broke
      | in_default-scan_term-via-in_default-scan_term w ↦
          term_missing _ _ _ _ _ _ _ _ _ _ _ c.after.ensures _ c.in-Some.is _ c.scan_term.ensures w.in_default-scan_term.is broke
    ]
