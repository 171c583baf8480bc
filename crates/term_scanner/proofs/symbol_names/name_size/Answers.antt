use Rattle.std.proofs.Common.{rules}
use Rattle.scanning.specs.Scanning.{name_size}
use Rattle.term_scanner.proofs.symbol_names.name_size.Goals as goal

pub returns : goal.returns
unfolding name_size
returns c = search rules
