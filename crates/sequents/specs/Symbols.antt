-- Document 01, "Derivations": "Made constants and leftover variables are endless at each level, told apart by number and
-- level; here a leftover variable counts as a constant."
use Rattle.std.specs.Prelude.{ℕ, ◌≤◌}
use Rattle.terms.specs.Terms.{Term, Terms, level_by}

-- A "made constant" is the eigenvariable of a universal goal; a "leftover variable" is a logic variable that the search
-- left unbound. Each has its number, then its level.
pub data Symbol : Type 0 where
  made : ℕ → ℕ → Symbol
  leftover : ℕ → ℕ → Symbol
  deriving Discrete as Symbol-discrete

unfoldable pub symbol_level : Symbol → ℕ
symbol_level (made n k) = k
symbol_level (leftover n k) = k

-- Terms of a derivation.
abbrev pub Ground : Type 0
Ground = Term Symbol

-- "any term whose symbols have level at most I"
unfoldable pub level : Ground → ℕ
level t = level_by t symbol_level
