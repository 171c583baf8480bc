-- The R line, and B lines with the terms for the goal's free variables.
use Rattle.std.specs.Prelude.{ℕ, ◌+◌, ◌-◌, Bool, false, cond, List, eqb, leb, length, get_or}
use Prim.Native.Char.{code}
use Rattle.sheet_format.specs.Limits.{max_budget}
use Rattle.sheet_format.specs.Bytes.{ascii, tab}
use Rattle.std.specs.Prelude.{Some, None}
use Rattle.scanning.specs.Ranges.{same_range, scan_number}
use Rattle.scanning.specs.Scanning.{scan_term}
use Rattle.scanning.specs.Frames.{bind_frame}
use Rattle.line_checking.specs.declared.Registers.{Registers}
use Rattle.line_checking.specs.Sequents.{Made, made, broken, bound}

-- The text has these bytes at position i.
unfoldable pub begins_with : List ℕ → List ℕ → ℕ → Bool
begins_with a x i = same_range (length a) a 0 x i

-- A line from i to e that is just these bytes.
unfoldable pub is_line : List ℕ → List ℕ → ℕ → ℕ → Bool
is_line a x i e = cond (eqb (e - i) (length a)) (begins_with a x i) false

-- "R proved units": the number n ends at j, the line at e.
unfoldable pub check_result_with : List ℕ → ℕ → List ℕ → Registers → ℕ → ℕ → ℕ → Made
check_result_with t goal w r n j e =
    cond (eqb j e) (cond (leb 1 n) (cond (leb n max_budget) (made w (bound t goal r 0 0)) (broken w r)) (broken w r)) (broken w r)

-- This reads the number of units at position i.
unfoldable pub check_units : List ℕ → ℕ → List ℕ → ℕ → List ℕ → Registers → ℕ → Made
check_units t goal x i w r e = elim (scan_number x i) [ Some (n, j) ↦ check_result_with t goal w r n j e | None ↦ broken w r ]

-- This judges an R line from position i on.
unfoldable pub check_result : List ℕ → ℕ → List ℕ → List ℕ → Registers → ℕ → ℕ → Made
check_result t goal x w r i e = cond (begins_with (ascii "R\tproved\t") x i) (check_units t goal x (i + 9) w r e) (broken w r)

-- "B v term", v being due: the term from i to j of level k. Line q of the text, which ends at e.
unfoldable pub bind_with : List ℕ → ℕ → List ℕ → Registers → ℕ → ℕ → ℕ → ℕ → ℕ → Made
bind_with t goal w r q i j k e =
    cond (eqb j e) (cond (eqb k 0) (made (bind_frame w q r.frame r.node i j) (bound t goal r (r.node + 1) q)) (broken w r))
    (broken w r)

-- This reads the term of a B line at position i.
unfoldable pub bind_term : List ℕ → List ℕ → ℕ → ℕ → List ℕ → List ℕ → Registers → ℕ → ℕ → ℕ → Made
bind_term b t symbols goal x w r q i e =
    elim (scan_term (length x) b t symbols x i) [ Some (j, k) ↦ bind_with t goal w r q i j k e | None ↦ broken w r ]

-- The line begins with `B` and the variable v.
unfoldable pub binds_variable : List ℕ → ℕ → ℕ → Bool
binds_variable x i v =
    cond (begins_with (ascii "B\t") x i) (cond (eqb (get_or x (i + 2) 0) (code "0" + v)) (eqb (get_or x (i + 3) 0) tab) false) false

-- This judges a B line from position i on.
unfoldable pub bind_line : List ℕ → List ℕ → ℕ → ℕ → List ℕ → List ℕ → Registers → ℕ → ℕ → ℕ → Made
bind_line b t symbols goal x w r q i e = cond (binds_variable x i r.node) (bind_term b t symbols goal x w r q (i + 4) e) (broken w r)
