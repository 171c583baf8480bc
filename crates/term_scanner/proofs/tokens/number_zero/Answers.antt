use Rattle.scanning.specs.Ranges.{number_zero}
use Rattle.term_scanner.proofs.tokens.number_zero.Goals as goal

pub returns-then-is_digit : goal.returns-then-is_digit
unfolding number_zero
returns-then-is_digit c = simp (number_zero, ← c.byte.ensures, ← c.is_digit.ensures, c.if-is_digit.true)

pub returns : goal.returns
unfolding number_zero
returns c = simp (number_zero, ← c.byte.ensures, ← c.is_digit.ensures, c.if-is_digit.false)
