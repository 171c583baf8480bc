-- The first line of a sheet, by request W-207: "A sheet that relied on the former order says so with a first line `O latest`." The code's
-- functions on lists.
use Rattle.std.specs.Prelude.{ℕ, Bool, true, false, cond, List, [], ◌∷◌, eqb}
use Rattle.sheet_format.specs.Bytes.{ascii}
use Rattle.node_table.specs.Layout.{default_order, former_order}
use Rattle.table_builder.specs.Orders.{put_order}
use Rattle.sheet_reader.specs.declared.first_line.Start.{Start}

-- Whether the bytes s begin with the bytes a.
unfoldable pub begins_with : List ℕ → List ℕ → Bool
begins_with [] s = true
begins_with (b ∷ a) [] = false
begins_with (b ∷ a) (c ∷ s) = cond (eqb c b) (begins_with a s) false

-- Whether the sheet begins with request W-207's line `O latest`, its LF included.
unfoldable pub begins_with_order : List ℕ → Bool
begins_with_order s = begins_with (ascii "O\tlatest\n") s

-- How many bytes that line has, with its LF.
abbrev pub order_line_bytes : ℕ
order_line_bytes = 9

-- The table with the order in force, and where the lines to be read begin.
pub record Started : Type 0 where
  pub table : List ℕ
  pub start : Start

abbrev pub started : List ℕ → Start → Started
started t r = record { table = t; start = r }

abbrev pub start_at : ℕ → ℕ → Start
start_at at line = record { at = at; line = line }

-- Request W-207's order in force, written before any line is taken: behind the line `O latest` from line 2 on, else from line 1 on.
unfoldable pub read_order : List ℕ → List ℕ → Started
read_order s t =
    cond (begins_with_order s) (started (put_order t former_order) (start_at order_line_bytes 2)) (started (put_order t default_order) (start_at 0 1))
