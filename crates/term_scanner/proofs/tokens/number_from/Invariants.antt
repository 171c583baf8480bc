use Rattle.std.proofs.Common.{◌≡◌, ◌-◌, ◌≤◌, max, length}
use Rattle.scanning.specs.Ranges.{number_from}
use Rattle.term_scanner.proofs.tokens.number_from.Given as goal

abbrev pub invariant-loop-at : goal.invariant-loop-at
invariant-loop-at l = (l.value ≤ 65535) × (number_from (length l.text - l.i) l.text l.i l.v ≡ number_from (length l.text - l.at) l.text l.at l.value)
    × (l.at ≤ max l.i (length l.text))
