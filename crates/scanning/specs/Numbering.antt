-- Numbering by first showing, checked in place: a number is the next one of its kind, or has the level that it had where it showed
-- first. That position is looked for in the text from its beginning.
use Rattle.std.specs.Prelude.{ℕ, zero, suc, ◌+◌, ◌-◌, Bool, true, false, not, cond, List, eqb, ltb, length, get_or, Option, Some, None}
use Prim.Native.Char.{code}
use Rattle.sheet_format.specs.Bytes.{is_name_byte}
use Rattle.scanning.specs.Ranges.{scan_number}

-- How many made constants and how many leftover variables have shown.
abbrev pub SymbolCounts : Type 0
SymbolCounts = Option (ℕ × ℕ)

-- A symbol begins at position i: `!`, or `_` that is not inside a name.
unfoldable pub outside_name : List ℕ → ℕ → Bool
outside_name x i = cond (eqb i 0) false (not (is_name_byte (get_or x (i - 1) 0)))

-- A symbol begins at `!`, or at a `_` that is outside a name.
unfoldable pub is_symbol : List ℕ → ℕ → Bool
is_symbol x i = cond (eqb (get_or x i 0) (code "!")) true (cond (eqb (get_or x i 0) (code "_")) (outside_name x i) false)

-- Above every number of a text: there is none.
abbrev pub no_number : ℕ
no_number = 65536

-- Its number and its level; 65,536 where there is none.
unfoldable pub number_at : List ℕ → ℕ → ℕ
number_at x i = elim (scan_number x i) [ Some (n, e) ↦ n | None ↦ no_number ]

-- The level of the symbol at position i stands after its number and `@`; it is 65,536 where there is none.
unfoldable pub level_at : List ℕ → ℕ → ℕ
level_at x i = elim (scan_number x (i + 1)) [ Some (n, e) ↦ number_at x (e + 1) | None ↦ no_number ]

-- A symbol with first byte c and number n begins at position i.
unfoldable pub is_showing : List ℕ → ℕ → ℕ → ℕ → Bool
is_showing x c n i = cond (eqb (get_or x i 0) c) (cond (is_symbol x i) (eqb (number_at x (i + 1)) n) false) false

-- The level at its first showing, from position i on, of m positions; 65,536 where it does not show.
unfoldable pub level_from : ℕ → List ℕ → ℕ → ℕ → ℕ → ℕ
level_from zero x c n i = no_number
level_from (suc m) x c n i = cond (is_showing x c n i) (level_at x i) (level_from m x c n (i + 1))

-- Gives the level at the first showing of number n, with first byte c, in the whole text.
unfoldable pub first_level : List ℕ → ℕ → ℕ → ℕ
first_level x c n = level_from (length x) x c n 0

-- The symbol at position i, k of its kind having shown: it is in order, and so many have shown after it.
unfoldable pub in_order : List ℕ → ℕ → ℕ → Bool
in_order x i k =
    cond (eqb (number_at x (i + 1)) k) true
    (cond (ltb (number_at x (i + 1)) k) (eqb (first_level x (get_or x i 0) (number_at x (i + 1))) (level_at x i)) false)

-- The count after position i is one more if the number there is new.
unfoldable pub count_after : List ℕ → ℕ → ℕ → ℕ
count_after x i k = cond (eqb (number_at x (i + 1)) k) (k + 1) k

-- Checks a made constant at position i, and counts it if its number is new.
unfoldable pub check_made : List ℕ → ℕ → ℕ → ℕ → SymbolCounts
check_made x i m l = cond (in_order x i m) (Some (count_after x i m, l)) None

-- Checks a leftover variable at position i, and counts it if its number is new.
unfoldable pub check_leftover : List ℕ → ℕ → ℕ → ℕ → SymbolCounts
check_leftover x i m l = cond (in_order x i l) (Some (m, count_after x i l)) None

-- Checks the symbol at position i, if one begins there.
unfoldable pub check_symbol : List ℕ → ℕ → ℕ → ℕ → SymbolCounts
check_symbol x i m l = cond (is_symbol x i) (cond (eqb (get_or x i 0) (code "!")) (check_made x i m l) (check_leftover x i m l)) (Some (m, l))

-- Checks the symbols that begin at n positions from i on.
unfoldable pub check_numbering : ℕ → List ℕ → ℕ → ℕ → ℕ → SymbolCounts
check_numbering zero x i m l = Some (m, l)
check_numbering (suc n) x i m l = elim (check_symbol x i m l) [ Some (p, q) ↦ check_numbering n x (i + 1) p q | None ↦ None ]
