-- How registers and records hold a stage of a text: by recursion on the sequents and hypotheses, each read from its record.
use Prim.Native.Nat.{ℕ, zero, suc, ◌+◌, ◌<◌, ◌≤◌}
use mathlib.Core.Path.{◌≡◌}
use mathlib.Core.Bool.{◌&&◌}
use mathlib.Core.List.{List, [], ◌∷◌, map}
use lib.Dec.{ltb}
use lib.ListN.{length, take}
use Rattle.formulas.specs.Formulas.{variable_names, free_g, free_c, free_from}
use Rattle.formulas.specs.Rules.{Order, rules, joined}
use Rattle.sequents.specs.Symbols.{Symbol}
use Rattle.sequents.specs.Sequents.{Environment, Hypothesis, hypothesis, Program, entries_of, Sequent}
use Rattle.sheet_format.specs.Bytes.{folded_name}
use Rattle.sheet_format.specs.Nodes.{Declaration}
use Rattle.sheet_format.specs.Sheets.{Sheet}
use Rattle.sheet_format.proofs.Names.{Names}
use Rattle.sheet_format.proofs.Formed.{FormedGoal, FormedClause}
use Rattle.sheet_format.proofs.Good.{Good}
use Rattle.node_table.specs.Decoding.{goal_at, clause_at_node, declarations_from, clauses_from, order_of, decode_sheet}
use Rattle.node_table.specs.Fingerprints.{NamesStand}
use Rattle.node_table.specs.WellMade.{IsGoal, IsClause, WellMade}
use Rattle.node_table.proofs.Words.{name_folded}
use Rattle.answer_texts.specs.Spelled.{Stage, opening, bindings, sequents}
use Rattle.scanning.specs.Fields as fields
use Rattle.scanning.proofs.InstanceSpelling.{Frame}
use Rattle.line_checking.specs.declared.Registers.{Registers}
use Rattle.line_checking.specs.Sequents.{sequent_stage, done_stage, result_stage, binding_stage}
use Rattle.line_checking.specs.HypothesisChains.{saturate, next_of, jump_of, passed_of}
use Rattle.line_checking.specs.Members.{sheet_members}
use Rattle.memory.specs.Records.{field}

-- What is judged: the sheet's bytes, the table, and the text.
pub record Setting : Type 0 where
  pub bytes : List ℕ
  pub table : List ℕ
  pub symbols : ℕ
  pub nodes : ℕ
  pub clauses : ℕ
  pub goal : ℕ
  pub text : List ℕ

-- The text with all letters folded. Terms are looked at in it, for their names may stand in either case (request W-201).
abbrev pub folds : Setting → List ℕ
folds c = folded_name c.text

-- The symbols that the table declares, with folded names.
abbrev pub declared : Setting → List Declaration
declared c = declarations_from (folded_name c.bytes) c.table c.symbols 0

-- The sheet that the table holds, with folded names.
unfoldable pub sheet_of : Setting → Sheet
sheet_of c = decode_sheet (folded_name c.bytes) c.table c.symbols c.clauses c.goal

-- Its clauses, with an environment.
abbrev pub sheet_clauses : Setting → Environment Symbol → List (Hypothesis Symbol)
sheet_clauses c e = map (λ d. hypothesis d e) (clauses_from c.table c.clauses 0)

-- The clauses s with the assumptions l, of which the latest is the first, in an order (request W-207).
unfoldable pub joined_all : {A : Type 0} → Order → List A → List A → List A
joined_all o [] s = s
joined_all o (a ∷ l) s = joined o a (joined_all o l s)

-- Where s steps to the next hypothesis lead from h.
unfoldable pub climb : ℕ → List ℕ → ℕ → ℕ
climb zero w h = h
climb (suc s) w h = climb s w (next_of w h)

-- The jump of h, at which the hypotheses l begin: it leads some steps along them, and passes their members.
pub record JumpAt (w : List ℕ) (h : ℕ) (l : List (Hypothesis Symbol)) : Type 0 where
  pub steps : ℕ
  pub least : 0 < length l → 0 < steps
  pub most : steps ≤ length l
  pub there : jump_of w h ≡ climb steps w h
  pub passed : passed_of w h ≡ saturate (length (entries_of (take steps l)))

-- The table is one that the reader fills.
pub record Filled (c : Setting) : Type 0 where
  pub well_made : WellMade c.table c.nodes c.clauses c.goal
  pub good : Good (sheet_of c)
  pub names : NamesStand c.bytes c.table c.symbols

-- The names of the declared symbols are proper.
pub names_of_lem : (c : Setting) → Filled c → Names (declared c)
unfolding sheet_of decode_sheet
names_of_lem c f = f.good.names

-- They stand in the folded bytes of the sheet, and the table has their words.
pub names_stand : (c : Setting) → Filled c → NamesStand (folded_name c.bytes) c.table c.symbols
names_stand c f k l = name_folded c.bytes c.table k (f.names k l)

module _ (c : Setting) where
  -- A hypothesis in record r, which is below k.
  pub record HypothesisAt (k : ℕ) (w : List ℕ) (r : ℕ) (a : Hypothesis Symbol) : Type 0 where
    pub below : r < k
    pub node : field w r fields.hypothesis_node < c.nodes
    pub is : IsClause c.table (field w r fields.hypothesis_node)
    pub clause : a.clause ≡ clause_at_node c.table (field w r fields.hypothesis_node)
    pub formed : FormedClause (clause_at_node c.table (field w r fields.hypothesis_node)) (declared c)
    pub older : field w r fields.hypothesis_frame < k
    pub frame : Frame (declared c) (folds c) w (field w r fields.hypothesis_frame) a.environment
        (free_c (clause_at_node c.table (field w r fields.hypothesis_node)))

  -- How many members stand before those of a hypothesis that is made after l, in the default order (request W-207).
  abbrev pub members_before : List (Hypothesis Symbol) → ℕ
  members_before l = sheet_members c.clauses c.table 0 + length (entries_of l)

  -- The hypotheses from the pointer h on, the later ones in records further down, each with its start and its jump.
  unfoldable pub HypothesesAt : ℕ → List ℕ → ℕ → List (Hypothesis Symbol) → Type 0
  HypothesesAt k w h [] = h ≡ 0
  HypothesesAt k w h (a ∷ l) =
      (r : ℕ) × (h ≡ suc r) × HypothesisAt k w r a × HypothesesAt r w (field w r fields.hypothesis_next) l
      × (field w r fields.hypothesis_start ≡ saturate (members_before l)) × JumpAt w h (a ∷ l)

  -- A program: the sheet's clauses and the hypotheses, in the order in force (request W-207).
  pub record ProgramAt (k : ℕ) (w : List ℕ) (h : ℕ) (P : Program Symbol) : Type 0 where
    pub hypotheses : List (Hypothesis Symbol)
    pub environment : Environment Symbol
    pub is : P ≡ rules (order_of c.table) (joined_all (order_of c.table) hypotheses (sheet_clauses c environment))
    pub at : HypothesesAt k w h hypotheses

  -- A sequent with the goal's node n, the frame f, the hypotheses h and the level i.
  pub record SequentAt (k : ℕ) (w : List ℕ) (n f h i : ℕ) (g : Sequent Symbol) : Type 0 where
    pub node : n < c.nodes
    pub is : IsGoal c.table n
    pub goal : g.goal ≡ goal_at c.table n
    pub formed : FormedGoal (goal_at c.table n) (declared c)
    pub older : f < k
    pub frame : Frame (declared c) (folds c) w f g.environment (free_g (goal_at c.table n))
    pub program : ProgramAt k w h g.program
    pub level : g.level ≡ i

  -- The sequents left from the pointer q on.
  unfoldable pub SequentsAt : ℕ → List ℕ → ℕ → List (Sequent Symbol) → Type 0
  SequentsAt k w q [] = q ≡ 0
  SequentsAt k w q (g ∷ gs) =
      (r : ℕ) × (q ≡ suc r) × (r < k) × SequentAt k w (field w r fields.sequent_node) (field w r fields.sequent_frame)
      (field w r fields.sequent_hypotheses) (field w r fields.sequent_level) g × SequentsAt k w (field w r fields.sequent_next) gs

  -- B lines are due for v and the free variables after it; those before it have their terms in the frame.
  pub record BindingAt (k : ℕ) (w : List ℕ) (r : Registers) (v : ℕ) (vs : List ℕ) (e : Environment Symbol) : Type 0 where
    pub stage : r.stage ≡ binding_stage
    pub variable : r.node ≡ v
    pub small : v < variable_names
    pub later : (n : ℕ) → v + suc n ≡ variable_names → vs ≡ free_from n (suc v) (goal_at c.table c.goal)
    pub older : r.frame < k
    pub frame : Frame (declared c) (folds c) w r.frame e (λ u. free_g (goal_at c.table c.goal) u && ltb u v)

  -- A stage after k lines.
  unfoldable pub Holds : ℕ → List ℕ → Registers → Stage → Type 0
  Holds k w r opening = r.stage ≡ result_stage
  Holds k w r (bindings [] e) = ⊥
  Holds k w r (bindings (v ∷ vs) e) = BindingAt k w r v vs e
  Holds k w r (sequents []) = r.stage ≡ done_stage
  Holds k w r (sequents (g ∷ gs)) =
      (r.stage ≡ sequent_stage) × SequentAt k w r.node r.frame r.hypotheses r.level g × SequentsAt k w r.rest gs
