-- Request W-202: "The text holds the proofs in walk order, each with its R line and the units so far, then an R line with no or spent if
-- fewer were found."
use Rattle.std.specs.Prelude.{ℕ, Bool, false, cond, List, [], ◌∷◌, ◌++◌, eqb}
use Prim.Native.Char.{code}
use Rattle.search.specs.Search.{proved, no_proof, SearchOutcome, ends, spent}
use Rattle.enumeration.specs.Enumeration.{Proof, End, enough, exhausted, units_spent, Enumeration}
use Rattle.sheet_format.specs.Bytes.{lines_of}
use Rattle.sheet_format.specs.Sheets.{Sheet}
use Rattle.answer_texts.specs.Spelling.{no_text, spent_text}
use Rattle.answer_texts.specs.Promises.{search_text}

-- The text of one proof found: "each numbers its variables and constants from 0".
unfoldable pub found_text : Sheet → Proof → List ℕ
found_text s p = search_text s p.store p.path p.units

-- The texts of the proofs found, one after the other.
unfoldable pub found_texts : Sheet → List Proof → List ℕ
found_texts s [] = []
found_texts s (p ∷ ps) = found_text s p ++ found_texts s ps

-- The last R line, where fewer proofs were found than were asked for.
unfoldable pub last_line : ℕ → End → List ℕ
last_line budget enough = []
last_line budget (exhausted n) = no_text n
last_line budget units_spent = spent_text budget

unfoldable pub enumeration_text : Sheet → ℕ → Enumeration → List ℕ
enumeration_text s budget r = found_texts s r.found ++ last_line budget r.end

-- The text of document 01, for one proof.
unfoldable pub outcome_text : Sheet → ℕ → SearchOutcome → List ℕ
outcome_text s budget (ends (proved store path) n) = search_text s store path n
outcome_text s budget (ends no_proof n) = no_text n
outcome_text s budget spent = spent_text budget

-- The D lines of a text, as bytes: of its lines those that begin with `D`.
unfoldable pub is_derivation : List ℕ → Bool
is_derivation [] = false
is_derivation (c ∷ cs) = eqb c (code "D")

unfoldable pub derivations_among : List (List ℕ) → List (List ℕ)
derivations_among [] = []
derivations_among (l ∷ ls) = cond (is_derivation l) (l ∷ derivations_among ls) (derivations_among ls)

unfoldable pub derivation_lines_of : List ℕ → List (List ℕ)
derivation_lines_of text = derivations_among (lines_of text).whole
