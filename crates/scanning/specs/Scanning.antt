-- Scanning a term in place: where it ends, and the highest level in it. Names are looked up on the sheet.
use Rattle.std.specs.Prelude.{ℕ, zero, suc, ◌+◌, ◌-◌, min, Bool, false, cond, List, eqb, ltb, length, get_or, Option, Some, None}
use Prim.Native.Char.{code}
use Rattle.sheet_format.specs.Bytes.{is_digit, is_name_byte}
use Rattle.node_table.specs.Layout.{name_start, name_word, name_length, is_function_bit, arity_of}
use Rattle.node_table.specs.Fingerprints.{word_at}
use Rattle.scanning.specs.Ranges.{same_folded, scan_number}

-- A term at a position: where it ends, and the highest level in it.
abbrev pub Scan : Type 0
Scan = Option (ℕ × ℕ)

-- names

-- Where the name at position i ends.
unfoldable pub name_from : ℕ → List ℕ → ℕ → ℕ
name_from zero x i = i
name_from (suc n) x i = cond (is_name_byte (get_or x i 0)) (name_from n x (i + 1)) i

-- Gives the position where the name at position i ends, among all bytes that are left.
unfoldable pub name_end : List ℕ → ℕ → ℕ
name_end x i = name_from (length x - i) x i

-- How many bytes the sheet has of the name of symbol k.
unfoldable pub name_size : List ℕ → List ℕ → ℕ → ℕ
name_size b t k = min (name_length t k) (length b - name_start t k)

-- Symbol k is named by the text from i to e, in either case of its letters (request W-201). The name in the text has that word; bytes are
-- compared only if the words are equal.
unfoldable pub is_named : List ℕ → List ℕ → ℕ → ℕ → List ℕ → ℕ → ℕ → Bool
is_named b t k word x i e =
    cond (eqb (name_word t k) word) (cond (eqb (e - i) (name_size b t k)) (same_folded (e - i) x i b (name_start t k)) false) false

-- The first symbol from k on, of n symbols, that has the name; the one after them if none has.
unfoldable pub symbol_from : ℕ → List ℕ → List ℕ → ℕ → ℕ → List ℕ → ℕ → ℕ → ℕ
symbol_from zero b t k word x i e = k
symbol_from (suc n) b t k word x i e = cond (is_named b t k word x i e) k (symbol_from n b t (k + 1) word x i e)

-- The first of so many symbols that has the name from i to e.
unfoldable pub symbol_named : ℕ → List ℕ → List ℕ → List ℕ → ℕ → ℕ → ℕ
symbol_named symbols b t x i e = symbol_from symbols b t 0 (word_at x i (e - i)) x i e

-- made constants and leftover variables, after their first byte

-- Scans the level of a symbol.
unfoldable pub scan_level : List ℕ → ℕ → Scan
scan_level x i = elim (scan_number x i) [ Some (k, e) ↦ Some (e, k) | None ↦ None ]

-- Scans `@`, then the level.
unfoldable pub scan_at : List ℕ → ℕ → Scan
scan_at x i = cond (eqb (get_or x i 0) (code "@")) (scan_level x (i + 1)) None

-- Scans the number, `@` and the level of a symbol.
unfoldable pub scan_symbol : List ℕ → ℕ → Scan
scan_symbol x i = elim (scan_number x i) [ Some (n, e) ↦ scan_at x e | None ↦ None ]

-- numbers

-- Scans a number as a term (request W-204): no other byte of a name follows it. Its level is 0.
unfoldable pub scan_numeral : List ℕ → ℕ → Scan
scan_numeral x i = elim (scan_number x i) [ Some (n, e) ↦ cond (is_name_byte (get_or x e 0)) None (Some (e, 0)) | None ↦ None ]

-- applications

-- The higher of two levels.
unfoldable pub higher : ℕ → ℕ → ℕ
higher k j = cond (ltb k j) j k

-- Scans n more arguments, the first after the byte c, each other one after a comma, and the closing bracket. A term is scanned
-- by r, and k is the highest level so far.
unfoldable pub scan_more : (ℕ → Scan) → ℕ → List ℕ → ℕ → ℕ → ℕ → Scan
scan_more r zero x c i k = cond (eqb (get_or x i 0) (code ")")) (Some (i + 1, k)) None
scan_more r (suc n) x c i k =
    cond (eqb (get_or x i 0) c) (elim (r (i + 1)) [ Some (e, j) ↦ scan_more r n x (code ",") e (higher k j) | None ↦ None ]) None

-- Scans n arguments in brackets, or nothing if n is 0.
unfoldable pub scan_arguments : (ℕ → Scan) → ℕ → List ℕ → ℕ → Scan
scan_arguments r n x i = cond (eqb n 0) (Some (i, 0)) (scan_more r n x (code "(") i 0)

-- Symbol k, of so many symbols, and its arguments from i on.
unfoldable pub scan_application : (ℕ → Scan) → List ℕ → ℕ → ℕ → List ℕ → ℕ → Scan
scan_application r t symbols k x i =
    cond (ltb k symbols) (cond (eqb (is_function_bit t k) 1) (scan_arguments r (arity_of t k) x i) None) None

-- A term, nested less deep than the rank says. No name begins with a digit.
unfoldable pub scan_term : ℕ → List ℕ → List ℕ → ℕ → List ℕ → ℕ → Scan
scan_term zero b t symbols x i = None
scan_term (suc f) b t symbols x i =
    cond (eqb (get_or x i 0) (code "!")) (scan_symbol x (i + 1))
    (cond (eqb (get_or x i 0) (code "_")) (scan_symbol x (i + 1))
    (cond (is_digit (get_or x i 0)) (scan_numeral x i)
    (scan_application (scan_term f b t symbols x) t symbols (symbol_named symbols b t x i (name_end x i)) x (name_end x i))))
