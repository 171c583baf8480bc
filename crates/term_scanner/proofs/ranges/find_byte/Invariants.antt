use Rattle.std.proofs.Common.{◌≡◌, ◌-◌, ◌≤◌, max, length}
use Rattle.scanning.specs.Ranges.{find_byte}
use Rattle.term_scanner.proofs.ranges.find_byte.Given as goal

abbrev pub invariant-loop-at : goal.invariant-loop-at
invariant-loop-at l = (find_byte (length l.text - l.i) l.text l.c l.i ≡ find_byte (length l.text - l.at) l.text l.c l.at) × (l.at ≤ max l.from (length l.text))
