use borrow.Author.Tests.{tests}
use Rattle.std.proofs.Common.{rules}
use Rattle.line_parser.specs.Lines.{push_node}
use Rattle.line_parser.proofs.lines.push_node.Goals as goal

pub returns-in-0 : goal.returns-in-0
unfolding push_node
returns-in-0 c = search (rules, tests)

pub returns-in-1 : goal.returns-in-1
unfolding push_node
returns-in-1 c = search (rules, tests)

pub returns-in-2 : goal.returns-in-2
unfolding push_node
returns-in-2 c = search (rules, tests)

pub returns-in_default : goal.returns-in_default
unfolding push_node
returns-in_default c = search (rules, tests)
