-- Request W-207: "A sheet that relied on the former order says so with a first line `O latest`." What a sheet was before, by the same
-- reader: no line is an O line, and the order is always the former one.
use Rattle.std.specs.Prelude.{ℕ, suc, List, ◌∷◌, ◌++◌}
use Rattle.formulas.specs.Rules.{Order, latest}
use Rattle.sheet_format.specs.Bytes.{lf, lines_of}
use Rattle.sheet_format.specs.Sheets.{Sheet, refusal, Read, sheet, refused, read_from, empty_table, order_line, sheet_form}

-- The sheet that the bytes were before the request.
unfoldable pub read_formerly : List ℕ → Read
read_formerly bytes = let l = lines_of bytes in read_from sheet_form latest l.whole l.rest 1 empty_table

-- The same with a line more in front: a refusal tells the next line.
unfoldable pub one_line_lower : Read → Read
one_line_lower (sheet s) = sheet s
one_line_lower (refused r) = refused (refusal r.number (suc r.line))

-- The sheet in another order; all else is the same.
unfoldable pub in_order : Order → Sheet → Sheet
in_order o s = record { order = o; symbols = s.symbols; clauses = s.clauses; goal = s.goal }

-- The bytes with the line `O latest` in front.
abbrev pub with_order_line : List ℕ → List ℕ
with_order_line bytes = order_line ++ (lf ∷ bytes)
