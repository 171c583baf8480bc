use Rattle.sheet_format.specs.Bytes.{is_digit}
use Rattle.term_scanner.proofs.tokens.is_digit.Goals as goal

pub returns : goal.returns
unfolding is_digit
returns c = c.is_ascii_digit.ensures.value
