-- Promises T4 and T5 at the level of bytes for each proof in a text (request W-202): "The checker takes each proof by itself, and each
-- numbers its variables and constants from 0."
use Rattle.std.specs.Prelude.{ℕ, suc, ◌≤◌, ◌≡◌, List, [], ◌∷◌, ◌++◌, length}
use Rattle.terms.specs.Lists.{All}
use Rattle.sequents.specs.Sequents.{Line}
use Rattle.unification.specs.Store.{Leaf, Store}
use Rattle.search.specs.Search.{proved, ends, search}
use Rattle.enumeration.specs.Enumeration.{Proof, enumerate}
use Rattle.sheet_format.specs.Limits.{max_budget, max_text_bytes}
use Rattle.sheet_format.specs.Sheets.{Sheet, rules_of, sheet, read_sheet}
use Rattle.sheet_format.specs.FormerLines.{WithoutNumberLines}
use Rattle.answer_texts.specs.Spelled.{SpellsAsDeclared}
use Rattle.answer_texts.specs.FormerTexts.{SpellsBefore}
use Rattle.answer_texts.specs.Promises.{search_text, DerivesText}
use Rattle.answer_texts.specs.Enumerations.{found_text, found_texts, enumeration_text, outcome_text, derivation_lines_of}

-- The proofs found for the goal of a sheet.
abbrev pub proofs_of : Sheet → ℕ → ℕ → List Proof
proofs_of s wanted budget = (enumerate wanted budget (rules_of s) s.goal).found

-- T5: within document 01's limits each text spells a derivation of an instance of the goal, with names as declared.
abbrev pub EachTextSound : Type 0
EachTextSound = (bytes : List ℕ) (s : Sheet) → read_sheet bytes ≡ sheet s → (wanted budget : ℕ) → budget ≤ max_budget
    → All (λ p. length (found_text s p) ≤ max_text_bytes → SpellsAsDeclared s (found_text s p)) (proofs_of s wanted budget)

-- Request W-204: over a sheet without N lines no text holds a number as a term, so that each is one of those before.
abbrev pub EachTextBefore : Type 0
EachTextBefore = (bytes : List ℕ) (s : Sheet) → read_sheet bytes ≡ sheet s → WithoutNumberLines bytes
    → (wanted budget : ℕ) → budget ≤ max_budget
    → All (λ p. length (found_text s p) ≤ max_text_bytes → SpellsBefore (λ a b. a ≡ b) s (found_text s p)) (proofs_of s wanted budget)

-- T4: each text spells a derivation sequence of CS-1992-17.
abbrev pub EachTextFollows : Type 0
EachTextFollows = (s : Sheet) (wanted budget : ℕ) → All (λ p. DerivesText s p.units (found_text s p)) (proofs_of s wanted budget)

-- With number 1 the text is that of document 01; with any number it begins with the text of the first proof, if there is one; a larger
-- number or budget leaves the proofs as they are and puts others after them.
pub record TextsExtend (s : Sheet) : Type 0 where
  pub one : (budget : ℕ) → enumeration_text s budget (enumerate 1 budget (rules_of s) s.goal)
      ≡ outcome_text s budget (search budget (rules_of s) s.goal)
  pub first : (wanted budget n : ℕ) (store : Store) (path : List (Line Leaf))
      → search budget (rules_of s) s.goal ≡ ends (proved store path) n
      → (rest : List ℕ)
      × (enumeration_text s budget (enumerate (suc wanted) budget (rules_of s) s.goal) ≡ search_text s store path n ++ rest)
  pub more : (w v b c : ℕ) → w ≤ v → b ≤ c
      → (rest : List ℕ) × (found_texts s (proofs_of s v c) ≡ found_texts s (proofs_of s w b) ++ rest)

abbrev pub AllTextsExtend : Type 0
AllTextsExtend = (s : Sheet) → TextsExtend s

-- "Every successful path of the walk stands there just once": no two of the texts have the same D lines, so that a text tells its path.
unfoldable pub DifferentTexts : Sheet → List Proof → Type 0
DifferentTexts s [] = Unit {0}
DifferentTexts s (p ∷ ps) =
    All (λ q. derivation_lines_of (found_text s p) ≡ derivation_lines_of (found_text s q) → ⊥) ps × DifferentTexts s ps

abbrev pub TextTellsPath : Type 0
TextTellsPath = (bytes : List ℕ) (s : Sheet) → read_sheet bytes ≡ sheet s → (wanted budget : ℕ) → budget ≤ max_budget
    → DifferentTexts s (proofs_of s wanted budget)
