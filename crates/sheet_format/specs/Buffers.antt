-- Document 01, "Turned back, in checking order": the demanded part of a lent buffer, and what it holds at the end.
use Rattle.std.specs.Prelude.{ℕ, ◌*◌, List, ◌++◌, drop, replicate}
use Rattle.sheet_format.specs.Limits.{numbers_per_unit}

-- "The work buffer holds under 64 numbers for each unit of budget", "for each LF in the answer text": the demanded part.
unfoldable pub demanded : ℕ → ℕ
demanded units = numbers_per_unit * units

-- "zero at the end, the rest of both unchanged"
unfoldable pub zeroed : ℕ → List ℕ → List ℕ
zeroed n l = replicate n 0 ++ drop n l
