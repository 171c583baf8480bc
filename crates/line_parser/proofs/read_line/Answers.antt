use Rattle.std.proofs.Common.{rules, arith, ◌∙◌}
use Rattle.line_parser.proofs.Laws.{line_true, line_fields_lem, line_other}
use Rattle.line_parser.proofs.read_line.Goals as goal

pub returns-in-89 : goal.returns-in-89
returns-in-89 c = line_true _ (omega arith) (search rules)

pub returns-in-9 : goal.returns-in-9
returns-in-9 c = c.read_fields.ensures ∙ line_fields_lem _ (omega arith) (search rules)

pub returns-in_default : goal.returns-in_default
returns-in_default c = line_other _ (λ e f. omega arith) (λ e f. omega arith)

pub returns-in_default-2 : goal.returns-in_default-2
returns-in_default-2 c = line_other _ (λ e f. omega arith) (λ e f. omega arith)

pub returns-in_default-3 : goal.returns-in_default-3
returns-in_default-3 c = line_other _ (λ e f. omega arith) (λ e f. omega arith)
