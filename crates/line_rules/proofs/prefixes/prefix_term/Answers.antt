use Rattle.line_rules.proofs.prefixes.Laws.{prefix_right, prefix_high, prefix_long}
use Rattle.line_rules.proofs.prefixes.prefix_term.Goals as goal
use Rattle.line_rules.proofs.prefixes.prefix_term.Goals.{then-j-line-via-then-j-line, then-j-line-via-else-j-line+then-k-prefix}

pub returns-then-j-line : goal.returns-then-j-line
returns-then-j-line c =
    elim c.then-j-line.branch [
      | then-j-line-via-then-j-line w ↦ prefix_long _ _ _ _ _ _ _ _ w.if-j-line.true
      | then-j-line-via-else-j-line+then-k-prefix w ↦ prefix_high _ _ _ _ _ _ _ _ w.if-j-line.false w.if-k-prefix.true
    ]

pub returns : goal.returns
returns c = prefix_right _ _ _ _ _ _ _ _ _ c.if-j-line.false c.if-k-prefix.false c.put_range.ensures
