use Rattle.std.proofs.Common.{rules}
use mathlib.Core.Path.{ap, ◌∙◌}
use Rattle.sheet_format.specs.SheetLines.{node_line, number_line, clause_line, goal_line}
use Rattle.line_parser.specs.Lines.{line_answer}
use Rattle.line_parser.proofs.Laws.{letter_F, letter_P, letter_V, letter_N, letter_A, letter_connective, letter_quantifier}
use Rattle.line_parser.proofs.Laws.{letter_C, letter_Q, letter_other}
use Rattle.line_parser.proofs.line_kinds.Laws.{made_numeral, made_clause, made_goal}
use Rattle.line_parser.proofs.read_fields.Goals as goal

pub returns-in-70 : goal.returns-in-70
returns-in-70 c = c.read_declaration.ensures ∙ ap line_answer (letter_F _ _ c.in-70.is)

pub returns-in-80 : goal.returns-in-80
returns-in-80 c = c.read_declaration-in-80.ensures ∙ ap line_answer (letter_P _ _ c.in-80.is)

pub returns-in-86 : goal.returns-in-86
returns-in-86 c = c.read_variable.ensures ∙ ap line_answer (letter_V _ _ c.in-86.is)

pub returns-in-78 : goal.returns-in-78
returns-in-78 c = c.read_single.ensures (λ n. node_line (number_line n)) (λ n l q. made_numeral n l (search rules)) ∙ ap line_answer (letter_N _ _ c.in-78.is)

pub returns-in-65 : goal.returns-in-65
returns-in-65 c = c.read_application.ensures ∙ ap line_answer (letter_A _ _ c.in-65.is)

pub returns-in-38 : goal.returns-in-38
returns-in-38 c = c.read_connective.ensures ∙ ap line_answer (letter_connective _ _ c.in-38.is)

pub returns-in-69 : goal.returns-in-69
returns-in-69 c = c.read_quantifier.ensures ∙ ap line_answer (letter_quantifier _ _ c.in-69.is)

pub returns-in-67 : goal.returns-in-67
returns-in-67 c = c.read_single-in-67.ensures clause_line (λ n l q. made_clause n l (search rules)) ∙ ap line_answer (letter_C _ _ c.in-67.is)

pub returns-in-81 : goal.returns-in-81
returns-in-81 c = c.read_single-in-81.ensures goal_line (λ n l q. made_goal n l (search rules)) ∙ ap line_answer (letter_Q _ _ c.in-81.is)

pub returns-in_default : goal.returns-in_default
returns-in_default c =
    let r = c.in_default.in_default-own.rest in
    letter_other _ _ r.0.0.0.0.0.0.0.0.1 r.0.0.0.0.0.0.0.1 r.0.0.0.0.0.0.1 r.0.0.0.0.0.1
    r.0.0.0.0.1 r.0.0.0.1 r.0.0.1 r.0.1 r.1
