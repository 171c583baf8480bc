-- Where a symbol may begin.
use Rattle.std.specs.Prelude.{ℕ, zero, suc, ◌+◌, cond, List, eqb, get_or}
use Prim.Native.Char.{code}

-- The first position from i on, of n positions, that has `!` or `_`; the position after them if none has.
unfoldable pub find_sigil : ℕ → List ℕ → ℕ → ℕ
find_sigil zero x i = i
find_sigil (suc n) x i = cond (eqb (get_or x i 0) (code "!")) i (cond (eqb (get_or x i 0) (code "_")) i (find_sigil n x (i + 1)))
