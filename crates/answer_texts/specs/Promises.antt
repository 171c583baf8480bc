-- Promises T4 and T5 at the level of bytes (demand 2): "Every run follows the derivation steps of Nadathur's CS-1992-17"; "The sequent
-- checker ... accepts every derivation written".
use Rattle.std.specs.Prelude.{ℕ, ◌≤◌, ◌≡◌, List, [], map, reverse, ◌↔◌, length}
use Rattle.terms.specs.Terms.{number_term}
use Rattle.formulas.specs.Formulas.{free_variables}
use Rattle.sequents.specs.Symbols.{level}
use Rattle.sequents.specs.Sequents.{Line, put_line, put_environment}
use Rattle.unification.specs.Store.{Leaf, Store}
use Rattle.search.specs.Search.{start_environment, proved, ends, search}
use Rattle.search.specs.Answers.{final_environment, final_lines}
use Rattle.search.specs.Procedure.{State, DerivationSequence, answer_of, initial}
use Rattle.sheet_format.specs.Limits.{max_number, max_budget, max_text_bytes}
use Rattle.sheet_format.specs.Bytes.{decimal}
use Rattle.sheet_format.specs.Nodes.{Declaration}
use Rattle.sheet_format.specs.Sheets.{Sheet, rules_of, sheet, read_sheet}
use Rattle.sheet_format.specs.FormerLines.{WithoutNumberLines}
use Rattle.answer_texts.specs.TextLines.{answer_lines}
use Rattle.answer_texts.specs.Spelling.{spell_term, proof_text}
use Rattle.answer_texts.specs.Spelled.{WritableTerm, SpellsAsDeclared}
use Rattle.answer_texts.specs.FormerTexts.{SpellsBefore}

-- The text of a proved search.
unfoldable pub search_text : Sheet → Store → List (Line Leaf) → ℕ → List ℕ
search_text s store path units =
    proof_text s.symbols (answer_lines units (free_variables s.goal) (final_environment store) (final_lines store path))

-- T5: within document 01's limits it spells a derivation of an instance of the goal. Request W-201: names "are written as declared".
abbrev pub TextSound : Type 0
TextSound = (bytes : List ℕ) (s : Sheet) → read_sheet bytes ≡ sheet s
    → (budget n : ℕ) (store : Store) (path : List (Line Leaf)) → budget ≤ max_budget
    → search budget (rules_of s) s.goal ≡ ends (proved store path) n
    → length (search_text s store path n) ≤ max_text_bytes → SpellsAsDeclared s (search_text s store path n)

-- Request W-204: over a sheet without N lines the text of a proved search holds no number as a term, so that it is one of those before.
abbrev pub TextAsBefore : Type 0
TextAsBefore = (bytes : List ℕ) (s : Sheet) → read_sheet bytes ≡ sheet s → WithoutNumberLines bytes
    → (budget n : ℕ) (store : Store) (path : List (Line Leaf)) → budget ≤ max_budget
    → search budget (rules_of s) s.goal ≡ ends (proved store path) n
    → length (search_text s store path n) ≤ max_text_bytes → SpellsBefore (λ a b. a ≡ b) s (search_text s store path n)

-- Request W-204: a number is written in base ten, up to 65,535, whatever the sheet declares, and has level 0.
pub record NumberWritten (ds : List Declaration) (n : ℕ) : Type 0 where
  pub spelled : spell_term (number_term n) ds ≡ decimal n
  pub writable : WritableTerm (number_term n) ds ↔ (n ≤ max_number)
  pub low : level (number_term n) ≡ 0

abbrev pub NumbersWritten : Type 0
NumbersWritten = (ds : List Declaration) (n : ℕ) → NumberWritten ds n

-- T4 at the level of bytes: a derivation sequence of CS-1992-17, definitions 6 to 8, from the goal's first state to one without goals.
-- The text's D lines are its lines, with final bindings and levels, and its B lines are the answer substitution.
pub record DerivesText (s : Sheet) (units : ℕ) (text : List ℕ) : Type 0 where
  pub path : List (Line Leaf)
  pub state : State
  pub sequence : DerivationSequence (initial (rules_of s) s.goal) path state
  pub finished : state.goals ≡ []
  pub spelled : text ≡ proof_text s.symbols (answer_lines units (free_variables s.goal)
      (put_environment (answer_of sequence) start_environment) (map (put_line (answer_of sequence)) (reverse path)))

abbrev pub TextFollows : Type 0
TextFollows = (s : Sheet) (budget n : ℕ) (store : Store) (path : List (Line Leaf))
    → search budget (rules_of s) s.goal ≡ ends (proved store path) n → DerivesText s n (search_text s store path n)
