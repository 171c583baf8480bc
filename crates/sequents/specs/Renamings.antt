-- Changes of symbols that keep kind and level: numbering by first showing is one, and so is another constant for a universal goal.
use Rattle.std.specs.Prelude.{ℕ, List, map}
use Rattle.terms.specs.Terms.{Term, leaf}
use Rattle.sequents.specs.Symbols.{Symbol, made, leftover}
use Rattle.sequents.specs.Sequents.{Environment, Program, put_environment, put_program, Sequent, put_sequent, Line, put_line}

-- The new number of each symbol, from its number and its level.
pub record Renaming : Type 0 where
  pub of_made : ℕ → ℕ → ℕ
  pub of_leftover : ℕ → ℕ → ℕ

unfoldable pub rename : Renaming → Symbol → Symbol
rename r (made n k) = made (r.of_made n k) k
rename r (leftover n k) = leftover (r.of_leftover n k) k

abbrev pub renamed : Renaming → Symbol → Term Symbol
renamed r s = leaf (rename r s)

abbrev pub rename_sequent : Renaming → Sequent Symbol → Sequent Symbol
rename_sequent r g = put_sequent (renamed r) g

abbrev pub rename_line : Renaming → Line Symbol → Line Symbol
rename_line r x = put_line (renamed r) x
