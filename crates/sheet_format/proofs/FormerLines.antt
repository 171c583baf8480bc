-- A sheet without N lines is read as before request W-204.
use Prim.Native.Nat.{ℕ}
use mathlib.Core.Path.{◌≡◌, refl, sym}
use mathlib.Core.Option.{Option, none, some}
use Rattle.terms.proofs.Lists.{all_weaken}
use Rattle.sheet_format.specs.Bytes.{lines_of, same_name}
use Rattle.sheet_format.specs.SheetLines.{variable_line, number_line, apply_line, true_line, and_line, or_line, implies_line, some_line}
use Rattle.sheet_format.specs.SheetLines.{every_line, SheetLine, declare_line, node_line, clause_line, goal_line, parse_line}
use Rattle.sheet_format.specs.Sheets.{read_sheet_by, sheet_form, read_sheet}
use Rattle.sheet_format.specs.FormerLines.{without_number, without_numbers, form_without_numbers, NoNumberLine}
use Rattle.sheet_format.specs.Promises.{ReadsWithoutNumbers}
use Rattle.sheet_format.proofs.Options.{OnSome}
use Rattle.sheet_format.proofs.Forms.{Declares, lines_alike}

-- A line that is no N line was the same line.
other_line : (o : Option SheetLine) → ((n : ℕ) → o ≡ some (node_line (number_line n)) → ⊥)
    → (without_numbers o ≡ o) × OnSome (Declares (λ n. Unit {0})) o
unfolding without_numbers without_number
other_line none h = (refl, tt)
other_line (some (declare_line k n a)) h = (refl, tt)
other_line (some (node_line (variable_line v))) h = (refl, tt)
other_line (some (node_line (number_line n))) h = absurd (h n refl)
other_line (some (node_line (apply_line f ns))) h = (refl, tt)
other_line (some (node_line true_line)) h = (refl, tt)
other_line (some (node_line (and_line n m))) h = (refl, tt)
other_line (some (node_line (or_line n m))) h = (refl, tt)
other_line (some (node_line (implies_line n m))) h = (refl, tt)
other_line (some (node_line (some_line v n))) h = (refl, tt)
other_line (some (node_line (every_line v n))) h = (refl, tt)
other_line (some (clause_line n)) h = (refl, tt)
other_line (some (goal_line n)) h = (refl, tt)

-- A sheet without N lines is read as before.
pub reads_without_numbers : ReadsWithoutNumbers
unfolding read_sheet read_sheet_by form_without_numbers sheet_form
reads_without_numbers bytes h =
    sym (lines_alike same_name same_name (λ n. Unit {0}) (λ m n p q. refl) (λ l. without_numbers (parse_line l)) parse_line
    (lines_of bytes).whole (lines_of bytes).rest
    (all_weaken NoNumberLine (λ l. (without_numbers (parse_line l) ≡ parse_line l) × OnSome (Declares (λ n. Unit {0})) (parse_line l))
    (λ l k. other_line (parse_line l) k) (lines_of bytes).whole h))
