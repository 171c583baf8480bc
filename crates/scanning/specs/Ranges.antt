-- Reading bytes in place: equal ranges, the end of a line, numbers. A read past the end gives 0, which is no byte of a right line.
use Rattle.std.specs.Prelude.{ℕ, zero, suc, ◌+◌, ◌-◌, ◌*◌, Bool, true, false, cond, List, eqb, leb, length, get_or, Option, Some, None}
use Prim.Native.Char.{code}
use Rattle.sheet_format.specs.Bytes.{lf, is_digit, folded}
use Rattle.sheet_format.specs.Limits.{max_number}

-- A number at a position: its value, and where it ends.
abbrev pub Number : Type 0
Number = Option (ℕ × ℕ)

-- The n bytes of a from i on and of b from j on are the same.
unfoldable pub same_range : ℕ → List ℕ → ℕ → List ℕ → ℕ → Bool
same_range zero a i b j = true
same_range (suc n) a i b j = cond (eqb (get_or a i 0) (get_or b j 0)) (same_range n a (i + 1) b (j + 1)) false

-- The n bytes of a from i on and of b from j on are the same but for the case of letters, request W-201.
unfoldable pub same_folded : ℕ → List ℕ → ℕ → List ℕ → ℕ → Bool
same_folded zero a i b j = true
same_folded (suc n) a i b j = cond (eqb (folded (get_or a i 0)) (folded (get_or b j 0))) (same_folded n a (i + 1) b (j + 1)) false

-- The first position from i on, of n positions, that has the byte c; the position after them if none has.
unfoldable pub find_byte : ℕ → List ℕ → ℕ → ℕ → ℕ
find_byte zero x c i = i
find_byte (suc n) x c i = cond (eqb (get_or x i 0) c) i (find_byte n x c (i + 1))

-- Where the line from i on ends: at its LF, or at the end of the text.
unfoldable pub text_line_end : List ℕ → ℕ → ℕ
text_line_end x i = find_byte (length x - i) x lf i

-- A number, with the value v before position i; at most n digits more.
unfoldable pub number_from : ℕ → List ℕ → ℕ → ℕ → Number
number_from zero x i v = Some (v, i)
number_from (suc n) x i v =
    cond (is_digit (get_or x i 0))
    (cond (leb (10 * v + (get_or x i 0 - code "0")) max_number) (number_from n x (i + 1) (10 * v + (get_or x i 0 - code "0"))) None)
    (Some (v, i))

-- After a first digit 0 there is no digit.
unfoldable pub number_zero : List ℕ → ℕ → Number
number_zero x i = cond (is_digit (get_or x i 0)) None (Some (0, i))

-- The number at position i.
unfoldable pub scan_number : List ℕ → ℕ → Number
scan_number x i =
    cond (is_digit (get_or x i 0))
    (cond (eqb (get_or x i 0) (code "0")) (number_zero x (i + 1)) (number_from (length x - (i + 1)) x (i + 1) (get_or x i 0 - code "0")))
    None
