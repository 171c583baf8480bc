use Rattle.std.proofs.Common.{◌≡◌, ◌-◌, ◌≤◌, max}
use Rattle.numbering_check.specs.Sigils.{find_sigil}
use Rattle.numbering_check.proofs.find_sigil.Given as goal

abbrev pub invariant-loop-at : goal.invariant-loop-at
invariant-loop-at l = (find_sigil (l.e - l.i) l.text l.i ≡ find_sigil (l.e - l.at) l.text l.at) × (l.at ≤ max l.from l.e)
