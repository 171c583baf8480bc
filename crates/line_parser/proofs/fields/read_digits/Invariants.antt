use Rattle.std.proofs.Common.{◌≡◌, ◌≤◌}
use lib.ListN.{drop}
use Rattle.sheet_format.specs.Limits.{max_number}
use Rattle.sheet_format.specs.Bytes.{digits_from, at_most}
use Rattle.line_parser.proofs.fields.read_digits.Given as goal

abbrev pub invariant-loop-b : goal.invariant-loop-b
invariant-loop-b l = (l.v ≤ max_number) × (at_most max_number (digits_from 0 l.f) ≡ at_most max_number (digits_from l.v (drop l.b-index l.f)))
