use Rattle.std.proofs.Common.{◌≡◌, ◌-◌, ◌≤◌, max, length}
use Rattle.scanning.specs.Scanning.{name_end, name_from}
use Rattle.term_scanner.proofs.tokens.name_end.Given as goal

abbrev pub invariant-loop-at : goal.invariant-loop-at
invariant-loop-at l = (name_end l.text l.i ≡ name_from (length l.text - l.at) l.text l.at) × (l.at ≤ max l.i (length l.text))
