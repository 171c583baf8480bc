-- The first field of the rest of a line: where it ends, and what it says as a number and as a name.
-- Document 01: "fields are parted by one tab"; numbers and names are those of `sheet_format`.
use Rattle.std.specs.Prelude.{ℕ, suc, Bool, ◌||◌, cond, List, [], ◌∷◌, eqb, take, Option, Some, None}
use Prim.Native.Char.{code}
use Rattle.std.proofs.Math.Option.{Option as MathOption, none, some}
use Rattle.sheet_format.specs.Bytes.{tab, number, is_capital, is_digit, is_name}

-- The position of the first tab, or the length where there is none.
unfoldable pub field_len : List ℕ → ℕ
field_len [] = 0
field_len (c ∷ cs) = cond (eqb c tab) 0 (suc (field_len cs))

-- The first field: the first of `fields`, by the law `fields-first`.
unfoldable pub first_field : List ℕ → List ℕ
first_field s = take (field_len s) s

-- The answer for a field of n bytes that says a number or none.
unfoldable pub number_answer : ℕ → MathOption ℕ → Option (ℕ × ℕ)
number_answer n none = None
number_answer n (some v) = Some (v, n)

-- The first field as a number, with its length.
unfoldable pub first_number : List ℕ → Option (ℕ × ℕ)
first_number s = number_answer (field_len s) (number (first_field s))

-- A name byte that is no small letter.
unfoldable pub is_other_name_byte : ℕ → Bool
is_other_name_byte c = is_capital c || is_digit c || eqb c (code "_")

-- The first field if it is a name, and nothing otherwise.
unfoldable pub first_name : List ℕ → List ℕ
first_name s = cond (is_name (first_field s)) (first_field s) []

-- What a part of n bytes says: a name of so many bytes, or none where it is empty.
unfoldable pub name_answer : ℕ → Option ℕ
name_answer n = cond (eqb n 0) None (Some n)
