use Rattle.scanning.specs.Ranges.{text_line_end}
use borrow.Author.Rules.{rules}
use Rattle.term_scanner.proofs.ranges.text_line_end.Goals as goal

pub returns : goal.returns
unfolding text_line_end
returns c = search rules
