-- A lent work buffer as records of 64 numbers: the engine keeps a record for each act, the checker one for each line. Addresses of
-- different fields never meet, whatever the records are, so a read after a write needs no bound on the records' numbers.
use Rattle.std.specs.Prelude.{ℕ, ◌+◌, ◌*◌, List, get_or, set}

-- How many numbers a record has.
abbrev pub record_numbers : ℕ
record_numbers = 64

-- Field f of record u.
unfoldable pub field : List ℕ → ℕ → ℕ → ℕ
field w u f = get_or w (record_numbers * u + f) 0

-- Another number in that field.
unfoldable pub put_field : List ℕ → ℕ → ℕ → ℕ → List ℕ
put_field w u f a = set w (record_numbers * u + f) a
