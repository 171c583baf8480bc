-- Requests W-201, W-204 and W-207 of the reader.
use Rattle.std.specs.Prelude.{◌≡◌, ◌↔◌, List, ◌∷◌, ◌++◌, ℕ, length}
use Prim.Native.Char.{code}
use Rattle.formulas.specs.Rules.{oldest, latest}
use Rattle.sheet_format.specs.Bytes.{lines_of}
use Rattle.sheet_format.specs.Sheets.{Sheet, sheet, refused, read_sheet_by, read_sheet}
use Rattle.sheet_format.specs.FormerNames.{former_form, NamesInSmallLetters}
use Rattle.sheet_format.specs.FormerLines.{form_without_numbers, WithoutNumberLines}
use Rattle.sheet_format.specs.FormerOrder.{read_formerly, one_line_lower, in_order, with_order_line}
use Rattle.sheet_format.specs.OrderLines.{OtherOrderLine, order_line_refusal}

-- W-201: a sheet with names all in small letters is read as before, and what is no sheet is refused as before.
abbrev pub ReadsAsBefore : Type 0
ReadsAsBefore = (bytes : List ℕ) → NamesInSmallLetters bytes → read_sheet bytes ≡ read_sheet_by former_form bytes

-- W-204: a sheet without N lines is read as before, and what is no sheet is refused as before.
abbrev pub ReadsWithoutNumbers : Type 0
ReadsWithoutNumbers = (bytes : List ℕ) → WithoutNumberLines bytes → read_sheet bytes ≡ read_sheet_by form_without_numbers bytes

-- W-207: with the line `O latest` in front, bytes are read as they were before, one line lower.
abbrev pub ReadsFormerOrder : Type 0
ReadsFormerOrder = (bytes : List ℕ) → read_sheet (with_order_line bytes) ≡ one_line_lower (read_formerly bytes)

-- W-207: a sheet in the default order is, with that line in front, the same sheet in the former order.
abbrev pub SameSheetInBothOrders : Type 0
SameSheetInBothOrders = (bytes : List ℕ) (s : Sheet) → read_sheet bytes ≡ sheet s → s.order ≡ oldest
    → read_sheet (with_order_line bytes) ≡ sheet (in_order latest s)

-- W-207: the order of a sheet is the former one exactly if the sheet begins with that line.
abbrev pub OrderInForce : Type 0
OrderInForce = (bytes : List ℕ) (s : Sheet) → read_sheet bytes ≡ sheet s
    → (s.order ≡ latest) ↔ ((rest : List ℕ) × (bytes ≡ with_order_line rest))

-- W-207: an O line elsewhere, or with another word, is refused under 6, after a Q line under 11, whatever stands before and after it.
abbrev pub OtherOrderLinesRefused : Type 0
OtherOrderLinesRefused = (before after : List ℕ) → OtherOrderLine before after
    → read_sheet (before ++ (code "O" ∷ after)) ≡ refused (order_line_refusal (length (lines_of before).whole) (read_sheet before))
