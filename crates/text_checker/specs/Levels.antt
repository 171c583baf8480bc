-- Levels of first showings, kept from line to line.
use Rattle.std.specs.Prelude.{ℕ, ◌≡◌, List}
use Rattle.numbering_check.specs.LevelCache.{CacheValid}
use Rattle.line_checking.specs.declared.Registers.{Registers}
use Rattle.line_checking.specs.Sequents.{broken_stage}

-- The levels kept in v are those of the text x before position i, unless a line has broken.
abbrev pub ValidUnlessBroken : List ℕ → List ℕ → ℕ → Registers → Type 0
ValidUnlessBroken x v i r = (r.stage ≡ broken_stage → ⊥) → CacheValid x v i r.made r.leftover
