-- Document 01, "The answer text": "First `R`, outcome, units. ... After proved, `B v term` for each free variable, ascending. Then a
-- line for each goal, in the order taken".
use Rattle.std.specs.Prelude.{ℕ, List, [], ◌∷◌, ◌++◌, map}
use Rattle.terms.specs.Terms.{substitute}
use Rattle.sequents.specs.Symbols.{Symbol, Ground}
use Rattle.sequents.specs.Sequents.{Environment, Line, plain, Dsome, Dall, Dclause, put_line}
use Rattle.sequents.specs.Renamings.{Renaming, renamed}

-- A line of the text of a proved search.
pub data TextLine : Type 0 where
  result_line : ℕ → TextLine
  binding_line : ℕ → Ground → TextLine
  derivation_line : Line Symbol → TextLine

unfoldable pub answer_lines : ℕ → List ℕ → Environment Symbol → List (Line Symbol) → List TextLine
answer_lines units vs e ls = result_line units ∷ (map (λ v. binding_line v (e v)) vs ++ map derivation_line ls)

-- The terms of a line, left to right.
unfoldable pub line_terms : Line Symbol → List Ground
line_terms (plain w) = []
line_terms (Dsome t) = t ∷ []
line_terms (Dall t) = t ∷ []
line_terms (Dclause k ts) = ts

unfoldable pub terms_of : TextLine → List Ground
terms_of (result_line n) = []
terms_of (binding_line v t) = t ∷ []
terms_of (derivation_line x) = line_terms x

unfoldable pub rename_text_line : Renaming → TextLine → TextLine
rename_text_line r (result_line n) = result_line n
rename_text_line r (binding_line v t) = binding_line v (substitute t (renamed r))
rename_text_line r (derivation_line x) = derivation_line (put_line (renamed r) x)
