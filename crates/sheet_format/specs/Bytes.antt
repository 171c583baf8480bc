-- Document 01: "Lines end with LF; fields are parted by one tab"; numbers and names. Of sheets and of answer texts alike.
use Rattle.std.specs.Prelude.{ℕ, zero, suc, ◌+◌, ◌-◌, ◌*◌, ◌/◌, ◌%◌, Bool, true, false, ◌&&◌, ◌||◌, cond, List, [], ◌∷◌, map, eqb, leb, ltb, length}
use Prim.Native.Char.{code}
use Prim.Native.String.{String, [] as []ˢ, ◌∷◌ as ◌∷ˢ◌}
use Rattle.std.proofs.Math.Option.{Option, none, some}
use Rattle.sheet_format.specs.Limits.{max_number, max_name}

-- A text of ASCII characters as bytes.
unfoldable pub ascii : String → List ℕ
ascii []ˢ = []
ascii (c ∷ˢ s) = code c ∷ ascii s

abbrev pub tab : ℕ
tab = code "\t"

abbrev pub lf : ℕ
lf = code "\n"

-- The whole lines, each without its LF, and the bytes after the last LF.
pub record SplitLines : Type 0 where
  pub whole : List (List ℕ)
  pub rest : List ℕ

unfoldable pub extend_line : ℕ → List (List ℕ) → List ℕ → SplitLines
extend_line c [] r = record { whole = []; rest = c ∷ r }
extend_line c (l ∷ ls) r = record { whole = (c ∷ l) ∷ ls; rest = r }

unfoldable pub lines_of : List ℕ → SplitLines
lines_of [] = record { whole = []; rest = [] }
lines_of (c ∷ cs) =
    let r = lines_of cs in
    elim (eqb c lf) [ true ↦ record { whole = [] ∷ r.whole; rest = r.rest } | false ↦ extend_line c r.whole r.rest ]

-- The fields of a line: one more than it has tabs.
unfoldable pub extend_field : ℕ → List (List ℕ) → List (List ℕ)
extend_field c [] = (c ∷ []) ∷ []
extend_field c (f ∷ fs) = (c ∷ f) ∷ fs

unfoldable pub fields : List ℕ → List (List ℕ)
fields [] = [] ∷ []
fields (c ∷ cs) = elim (eqb c tab) [ true ↦ [] ∷ fields cs | false ↦ extend_field c (fields cs) ]

-- Digits are 0 to 9. Letters are a to z and, by request W-201, A to Z. Name bytes are letters, digits and `_`.
unfoldable pub is_digit : ℕ → Bool
is_digit c = leb (code "0") c && leb c (code "9")

unfoldable pub is_small : ℕ → Bool
is_small c = leb (code "a") c && leb c (code "z")

unfoldable pub is_capital : ℕ → Bool
is_capital c = leb (code "A") c && leb c (code "Z")

unfoldable pub is_letter : ℕ → Bool
is_letter c = is_small c || is_capital c

unfoldable pub is_name_byte : ℕ → Bool
is_name_byte c = is_letter c || is_digit c || eqb c (code "_")

-- A number: digits, no zero first but for 0 itself, at most 65,535. `digits_from n` reads on after the value n.
unfoldable pub digits_from : ℕ → List ℕ → Option ℕ
digits_from n [] = some n
digits_from n (c ∷ cs) = elim (is_digit c) [ true ↦ digits_from (10 * n + (c - code "0")) cs | false ↦ none ]

unfoldable pub at_most : ℕ → Option ℕ → Option ℕ
at_most m none = none
at_most m (some n) = cond (leb n m) (some n) none

unfoldable pub number : List ℕ → Option ℕ
number [] = none
number (c ∷ []) = digits_from 0 (c ∷ [])
number (c ∷ d ∷ cs) = elim (eqb c (code "0")) [ true ↦ none | false ↦ at_most max_number (digits_from 0 (c ∷ d ∷ cs)) ]

-- A number in base ten: at most as many digits as the first argument says, put in front of ds.
unfoldable pub digits : ℕ → ℕ → List ℕ → List ℕ
digits zero n ds = ds
digits (suc f) n ds = elim (ltb n 10) [ true ↦ (code "0" + n) ∷ ds | false ↦ digits f (n / 10) ((code "0" + n % 10) ∷ ds) ]

unfoldable pub decimal : ℕ → List ℕ
decimal n = digits (suc n) n []

-- A name.
unfoldable pub name_bytes : List ℕ → Bool
name_bytes [] = true
name_bytes (c ∷ cs) = is_name_byte c && name_bytes cs

unfoldable pub is_name : List ℕ → Bool
is_name [] = false
is_name (c ∷ cs) = is_letter c && name_bytes cs && leb (length (c ∷ cs)) max_name

-- The same bytes.
unfoldable pub same_bytes : List ℕ → List ℕ → Bool
same_bytes [] [] = true
same_bytes [] (d ∷ ds) = false
same_bytes (c ∷ cs) [] = false
same_bytes (c ∷ cs) (d ∷ ds) = eqb c d && same_bytes cs ds

-- Request W-201: "two names are equal if they differ only in the case of those letters". A capital is folded to its small letter, and
-- every other byte stays.
unfoldable pub folded : ℕ → ℕ
folded c = cond (is_capital c) (c - code "A" + code "a") c

abbrev pub folded_name : List ℕ → List ℕ
folded_name n = map folded n

unfoldable pub same_name : List ℕ → List ℕ → Bool
same_name m n = same_bytes (folded_name m) (folded_name n)
