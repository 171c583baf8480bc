use Rattle.std.proofs.Common.{◌≡◌, ◌-◌}
use Rattle.scanning.specs.Scanning.{symbol_from, symbol_named}
use Rattle.term_scanner.proofs.symbol_names.symbol_named.Given as goal

abbrev pub invariant-loop-k : goal.invariant-loop-k
invariant-loop-k l = symbol_named l.symbols l.sheet l.t l.text l.i l.e ≡ symbol_from (l.symbols - l.k) l.sheet l.t l.k l.word l.text l.i l.e
