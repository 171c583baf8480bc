-- What changes in the state of a writing while the arguments of a term are written.
use Rattle.std.specs.Prelude.{ℕ}
use Rattle.term_printer.specs.declared.Bounds.{Bounds}

-- Changes the limit.
abbrev pub with_limit : Bounds → ℕ → Bounds
with_limit k n = record { turns = k.turns; limit = n }
