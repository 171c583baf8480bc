-- What is proved of the writer: it writes the answer text of document 01 if it fits, and otherwise no byte.
use Rattle.std.specs.Prelude.{ℕ, zero, suc, ◌+◌, ◌-◌, ◌*◌, ◌≤◌, ◌<◌, ◌≡◌, cond, List, [], ◌∷◌, ◌++◌, ◌⊎◌, leb, length, drop, Some, None}
use Rattle.sequents.specs.Sequents.{Line}
use Rattle.unification.specs.Store.{Leaf, Store}
use Rattle.unification.specs.Promises.{Unbound, Formed}
use Rattle.sheet_format.specs.Limits.{max_budget, max_text_bytes, numbers_per_unit, variable_names}
use Rattle.sheet_format.specs.Bytes.{lf, decimal}
use Rattle.node_table.specs.Layout.{kind_of, application_kind}
use Rattle.search.specs.Search.{proved, ends, search}
use Rattle.formulas.specs.Rules.{rules}
use Rattle.node_table.specs.Decoding.{clauses_from, goal_at, decode_sheet, order_of}
use Rattle.node_table.specs.WellMade.{IsTerm, WellMade, Named}
use Rattle.machine.specs.Fields as fields
use Rattle.machine.specs.Records.{cell_of, level_of, Made, proved_mode, some_line, clause_line}
use Rattle.machine.specs.Words.{tag_of, name_of, node_of, frame_of, slot_of, closure_tag, constant_tag, variable_tag}
use Rattle.machine.specs.Machine.{run_machine}
use Rattle.machine.specs.Simulation.{StandsAt}
use Rattle.answer_texts.specs.Spelling.{no_text, spent_text}
use Rattle.answer_texts.specs.Promises.{search_text}
use Rattle.printing.specs.PathLinks.{clear_variables, next_line_field}
use Rattle.printing.specs.Writer.{Fitted, fitted, text_limit, append_proof, append_result, write_proof, write_no, write_spent}
use Rattle.memory.specs.Records.{field}

-- What holds of the machine's memory after a proved search, beside `StandsAt`. All of it is part of the simulation's invariant.

-- A word of a leaf: a variable, or the constant of an act done.
pub data LeafWord (acts a : ℕ) : Type 0 where
  variable : tag_of a ≡ variable_tag → LeafWord acts a
  constant : tag_of a ≡ constant_tag → name_of a < acts → LeafWord acts a

-- A closure's: an application's node, and a frame that was made, in which every name stands for a leaf.
pub record Closure (t w : List ℕ) (nodes acts a : ℕ) : Type 0 where
  pub tag : tag_of a ≡ closure_tag
  pub there : node_of a < nodes
  pub term : IsTerm t (node_of a)
  pub application : kind_of t (node_of a) ≡ application_kind
  pub frame : frame_of a ≤ acts
  pub slots : (v : ℕ) → v < variable_names → LeafWord acts (slot_of w (frame_of a) v)

-- A word of a term.
pub data TermWord (t w : List ℕ) (nodes acts a : ℕ) : Type 0 where
  of_leaf : LeafWord acts a → TermWord t w nodes acts a
  of_closure : Closure t w nodes acts a → TermWord t w nodes acts a

-- The line of kind k in record q: its variables were made.
pub record LineMade (w : List ℕ) (next q k : ℕ) : Type 0 where
  pub kind : k ≤ clause_line
  pub some : k ≡ some_line → field w q fields.variables < next
  pub clause : k ≡ clause_line → field w q fields.use_count + field w q fields.variables ≤ next

-- From pointer p on, at most n lines, each made before the one after it.
unfoldable pub PathMade : ℕ → List ℕ → ℕ → ℕ → ℕ → Type 0
PathMade zero w next p k = p ≡ 0
PathMade (suc n) w next p k =
    (p ≡ 0) ⊎ ((1 ≤ p) × LineMade w next (p - 1) k × (field w (p - 1) fields.path_before < p)
    × PathMade n w next (field w (p - 1) fields.path_before) (field w (p - 1) fields.path_line))

-- The memory as a whole.
pub record Orderly (t : List ℕ) (nodes : ℕ) (m : Made) (s : Store) : Type 0 where
  -- The demanded part of the work buffer is there, and in it the variables made.
  pub few : m.registers.acts ≤ max_budget
  pub room : numbers_per_unit * m.registers.acts ≤ length m.memory
  pub goals : variable_names ≤ s.next
  pub variables : s.next ≤ fields.cells * m.registers.acts
  -- Each act binds at most once, and an unbound variable has no word.
  pub formed : Formed s
  pub bindings : length s.bindings ≤ m.registers.acts
  pub unbound : (x : ℕ) → x < s.next → Unbound s.bindings x → cell_of m.memory x ≡ 0
  pub words : (x : ℕ) → x < s.next → (cell_of m.memory x ≡ 0) ⊎ TermWord t m.memory nodes m.registers.acts (cell_of m.memory x)
  pub pointer : m.registers.path ≤ m.registers.acts
  pub path : PathMade m.registers.acts m.memory s.next m.registers.path m.registers.line

-- What becomes of the answer buffer, and the text's length, if it fits: "an answer changes only its own bytes".
unfoldable pub reported_length : List ℕ → List ℕ → Fitted
reported_length text out =
    cond (leb (length text) (text_limit out)) (fitted (text ++ drop (length text) out) (Some (length text))) (fitted out None)

-- The answer text is written if it fits, and otherwise no byte.
abbrev pub WritesProof : Type 0
WritesProof = (sheet t : List ℕ) (symbols nodes clauses goal : ℕ) → WellMade t nodes clauses goal → Named t nodes symbols
    → (m : Made) (s : Store) (path : List (Line Leaf)) → StandsAt t m proved_mode s path → Orderly t nodes m s → (units : ℕ) (out : List ℕ)
    → fitted (write_proof sheet t goal m units out).buffer (write_proof sheet t goal m units out).length
    ≡ reported_length (search_text (decode_sheet sheet t symbols clauses goal) s path units) out

-- So after every run of the machine that ends with a proof.
abbrev pub WritesAnswer : Type 0
WritesAnswer = (sheet t : List ℕ) (symbols nodes clauses goal : ℕ) → WellMade t nodes clauses goal → Named t nodes symbols
    → (budget : ℕ) → budget ≤ max_budget → (w : List ℕ) → numbers_per_unit * budget ≤ length w
    → (s : Store) (path : List (Line Leaf)) (n : ℕ)
    → search budget (rules (order_of t) (clauses_from t clauses 0)) (goal_at t goal) ≡ ends (proved s path) n
    → (out : List ℕ)
    → fitted (write_proof sheet t goal (run_machine budget t clauses goal w) n out).buffer
    (write_proof sheet t goal (run_machine budget t clauses goal w) n out).length
    ≡ reported_length (search_text (decode_sheet sheet t symbols clauses goal) s path n) out

-- The text of no is written if it fits, and otherwise no byte.
abbrev pub WritesNo : Type 0
WritesNo = (units : ℕ) (out : List ℕ) → write_no units out ≡ reported_length (no_text units) out

-- The text of spent is written if it fits, and otherwise no byte.
abbrev pub WritesSpent : Type 0
WritesSpent = (budget : ℕ) (out : List ℕ) → write_spent budget out ≡ reported_length (spent_text budget) out

-- Where a text goes in the writer's own bytes, which hold `front` and then `rest`: it follows `front` if it fits, and the position is
-- past the limit if it does not.
pub record Appended (limit : ℕ) (front text rest own : List ℕ) (at : ℕ) : Type 0 where
  pub bytes : length front + length text ≤ limit → own ≡ front ++ (text ++ drop (length text) rest)
  pub position : length front + length text ≤ limit → at ≡ length front + length text
  pub past : limit < length front + length text → limit < at
  pub long : length own ≡ length (front ++ rest)

-- The answer text is written after what stands before it, each text numbered by itself.
abbrev pub AppendsProof : Type 0
AppendsProof = (sheet t : List ℕ) (symbols nodes clauses goal : ℕ) → WellMade t nodes clauses goal → Named t nodes symbols
    → (m : Made) (s : Store) (path : List (Line Leaf)) → StandsAt t m proved_mode s path → Orderly t nodes m s → (units limit : ℕ)
    → limit ≤ max_text_bytes → (front rest : List ℕ) → length front ≤ limit → limit ≤ length (front ++ rest)
    → Appended limit front (search_text (decode_sheet sheet t symbols clauses goal) s path units) rest
    (append_proof sheet t goal m units limit (front ++ rest) (length front)).buffer
    (append_proof sheet t goal m units limit (front ++ rest) (length front)).length

-- So is the R line of no or spent: bs are the bytes before the units.
abbrev pub AppendsResult : Type 0
AppendsResult = (bs : List ℕ) (units limit : ℕ) → limit ≤ max_text_bytes → (front rest : List ℕ) → length front ≤ limit
    → limit ≤ length (front ++ rest)
    → Appended limit front (bs ++ (decimal units ++ (lf ∷ []))) rest (append_result bs units (front ++ rest) limit (length front)).buffer
    (append_result bs units (front ++ rest) limit (length front)).at

-- With the numbers cleared, all that the search reads is as it was.
pub record Restored (w w' : List ℕ) (next : ℕ) : Type 0 where
  pub long : length w' ≡ length w
  pub fields : (u f : ℕ) → fields.entry_lowered ≤ f → f < next_line_field → field w' u f ≡ field w u f
  pub levels : (x : ℕ) → level_of w' x ≡ level_of w x
  pub cells : (x : ℕ) → x < next → cell_of w' x ≡ cell_of w x

-- It is so after a text was appended, wherever and whether or not it fits.
abbrev pub RestoresAfter : Type 0
RestoresAfter = (sheet t : List ℕ) (symbols nodes clauses goal : ℕ) → WellMade t nodes clauses goal → Named t nodes symbols
    → (m : Made) (s : Store) (path : List (Line Leaf)) → StandsAt t m proved_mode s path → Orderly t nodes m s → (units limit : ℕ)
    → limit ≤ max_text_bytes → (own : List ℕ) (at : ℕ)
    → Restored m.memory (clear_variables s.next (append_proof sheet t goal m units limit own at).memory) s.next

-- It is so after the writer.
abbrev pub Restores : Type 0
Restores = (sheet t : List ℕ) (symbols nodes clauses goal : ℕ) → WellMade t nodes clauses goal → Named t nodes symbols
    → (m : Made) (s : Store) (path : List (Line Leaf)) → StandsAt t m proved_mode s path → Orderly t nodes m s → (units : ℕ) (out : List ℕ)
    → Restored m.memory (clear_variables s.next (write_proof sheet t goal m units out).memory) s.next
