use mathlib.Core.Path.{◌∙◌}
use borrow.Author.Tests.{ne_eqb}
use Rattle.line_rules.proofs.result_lines.Laws.{line_long, line_other}
use Rattle.line_rules.proofs.result_lines.is_line.Goals as goal

pub returns-then-saturating_sub-a : goal.returns-then-saturating_sub-a
returns-then-saturating_sub-a c =
    line_long _ _ _ _ _ c.saturating_sub.ensures _ c.if-saturating_sub-a.true c.begins_with.ensures

pub returns-else-saturating_sub-a : goal.returns-else-saturating_sub-a
returns-else-saturating_sub-a c =
    ne_eqb _ _ c.if-saturating_sub-a.false ∙ line_other _ _ _ _ _ c.saturating_sub.ensures c.if-saturating_sub-a.false
