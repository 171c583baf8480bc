-- Request W-204: "an old proof over a sheet without N lines must still check". What a sheet was before, by the same
-- reader: the form in force without what this request added.
use Rattle.std.specs.Prelude.{ℕ, ◌≡◌, List}
use Rattle.std.proofs.Math.Option.{Option, none, some}
use Rattle.terms.specs.Lists.{All}
use Rattle.sheet_format.specs.Bytes.{lines_of}
use Rattle.sheet_format.specs.SheetLines.{NodeLine, variable_line, number_line, apply_line, true_line, and_line, or_line, implies_line, some_line}
use Rattle.sheet_format.specs.SheetLines.{every_line, SheetLine, declare_line, node_line, clause_line, goal_line, parse_line}
use Rattle.sheet_format.specs.Sheets.{Form, sheet_form}

-- A line with the letter N was malformed.
unfoldable pub without_number : NodeLine → Option SheetLine
without_number (variable_line v) = some (node_line (variable_line v))
without_number (number_line n) = none
without_number (apply_line f ns) = some (node_line (apply_line f ns))
without_number true_line = some (node_line true_line)
without_number (and_line n m) = some (node_line (and_line n m))
without_number (or_line n m) = some (node_line (or_line n m))
without_number (implies_line n m) = some (node_line (implies_line n m))
without_number (some_line v n) = some (node_line (some_line v n))
without_number (every_line v n) = some (node_line (every_line v n))

unfoldable pub without_numbers : Option SheetLine → Option SheetLine
without_numbers none = none
without_numbers (some (declare_line k n a)) = some (declare_line k n a)
without_numbers (some (node_line l)) = without_number l
without_numbers (some (clause_line n)) = some (clause_line n)
without_numbers (some (goal_line n)) = some (goal_line n)

unfoldable pub form_without_numbers : Form
form_without_numbers = record { line = λ l. without_numbers (parse_line l); same = sheet_form.same }

-- "a sheet without N lines": no line of it is a well-formed N line. A malformed one is refused either way.
abbrev pub NoNumberLine : List ℕ → Type 0
NoNumberLine l = (n : ℕ) → parse_line l ≡ some (node_line (number_line n)) → ⊥

abbrev pub WithoutNumberLines : List ℕ → Type 0
WithoutNumberLines bytes = All NoNumberLine (lines_of bytes).whole
