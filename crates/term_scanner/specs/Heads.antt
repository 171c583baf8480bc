-- What a term begins with: a symbol or a number without arguments, or a name and the bracket before its arguments.
use Rattle.std.specs.Prelude.{ℕ, ◌+◌, true, false, cond, List, eqb, ltb, get_or}
use Prim.Native.Char.{code}
use Rattle.sheet_format.specs.Bytes.{is_digit}
use Rattle.node_table.specs.Layout.{is_function_bit, arity_of}
use Rattle.scanning.specs.Scanning.{Scan}
use Rattle.std.specs.Prelude.{Option, Some, None}
use Rattle.scanning.specs.Scanning.{name_end, symbol_named, scan_symbol, scan_numeral}
use Rattle.term_scanner.specs.declared.Head.{Head}
use Rattle.term_scanner.specs.declared.Head.TheVariants.{Leaf, Open}

-- A made constant, a leftover variable or a number has no arguments.
unfoldable pub leaf_of : Scan → Option Head
leaf_of s = elim s [ Some (e, k) ↦ Some (Leaf e k) | None ↦ None ]

-- A name that ends at i, of a symbol with n arguments.
unfoldable pub open_at : ℕ → List ℕ → ℕ → Option Head
open_at n x i = cond (eqb n 0) (Some (Leaf i 0)) (cond (eqb (get_or x i 0) (code "(")) (Some (Open (i + 1) n)) None)

-- A name that ends at i, of symbol k of so many symbols.
unfoldable pub head_of : List ℕ → ℕ → ℕ → List ℕ → ℕ → Option Head
head_of t symbols k x i = cond (cond (ltb k symbols) (eqb (is_function_bit t k) 1) false) (open_at (arity_of t k) x i) None

-- What begins at i.
unfoldable pub head_at : List ℕ → List ℕ → ℕ → List ℕ → ℕ → Option Head
head_at b t symbols x i =
    cond (cond (eqb (get_or x i 0) (code "!")) true (eqb (get_or x i 0) (code "_"))) (leaf_of (scan_symbol x (i + 1)))
    (cond (is_digit (get_or x i 0)) (leaf_of (scan_numeral x i))
    (head_of t symbols (symbol_named symbols b t x i (name_end x i)) x (name_end x i)))
