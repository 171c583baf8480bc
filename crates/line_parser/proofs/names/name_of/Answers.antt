use Rattle.std.proofs.Common.{rules}
use Rattle.line_parser.specs.Fields.{name_answer}
use Rattle.line_parser.proofs.names.name_of.Goals as goal

pub returns-then-is_empty : goal.returns-then-is_empty
unfolding name_answer
returns-then-is_empty c = search rules

pub returns-else-is_empty : goal.returns-else-is_empty
unfolding name_answer
returns-else-is_empty c = search rules
