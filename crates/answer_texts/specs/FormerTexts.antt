-- Request W-204: "an old proof over a sheet without N lines must still check". What an old proof is: the text of a derivation in which no
-- number stands as a term.
use Rattle.std.specs.Prelude.{ℕ, List}
use Rattle.terms.specs.Lists.{All}
use Rattle.terms.specs.Numberless.{Numberless}
use Rattle.formulas.specs.Formulas.{free_variables}
use Rattle.sequents.specs.Derivations.{lines}
use Rattle.sheet_format.specs.Sheets.{Sheet}
use Rattle.answer_texts.specs.TextLines.{terms_of, answer_lines}
use Rattle.answer_texts.specs.Spelled.{SpellsBy}

pub record SpellsBefore (same : List ℕ → List ℕ → Type 0) (s : Sheet) (text : List ℕ) : Type 0 where
  pub spells : SpellsBy same s text
  pub numberless : All (λ x. All Numberless (terms_of x))
      (answer_lines spells.units (free_variables s.goal) spells.environment (lines spells.proof.derivation))
