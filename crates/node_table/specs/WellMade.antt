-- What holds of every table that the reader fills: each node's children come before it and are of the kinds that it needs. The
-- engine and the checker rely on it.
use Rattle.std.specs.Prelude.{ℕ, ◌+◌, ◌≤◌, ◌<◌, ◌≡◌, cond, List, eqb, ltb, length}
use Rattle.terms.specs.Terms.{size}
use Rattle.formulas.specs.Formulas.{free_t, free_g, free_c}
use Rattle.formulas.specs.Members.{members}
use Rattle.sheet_format.specs.Limits.{max_arity, max_nodes, max_number, max_symbols, max_clauses, variable_names, max_members}
use Rattle.node_table.specs.Layout.{kind_of, child_count, label_of, child_of, mask_of, bit_of, goal_bit, members_of, size_of, arity_of}
use Rattle.node_table.specs.Layout.{clause_node, application_kind, forall_kind, implies_kind, atom_kind, and_kind, exists_kind, or_kind}
use Rattle.node_table.specs.Layout.{variable_kind}
use Rattle.node_table.specs.Chains.{below_of, chain_names, chain_count, names_over, count_over}
use Rattle.node_table.specs.Decoding.{term_at, goal_at, clause_at_node}

abbrev pub IsTerm : List ℕ → ℕ → Type 0
IsTerm t n = 1 ≤ size_of t n

abbrev pub IsGoal : List ℕ → ℕ → Type 0
IsGoal t n = goal_bit t n ≡ 1

abbrev pub IsClause : List ℕ → ℕ → Type 0
IsClause t n = 1 ≤ members_of t n

-- How many arguments stand after a label: the arity of a symbol, none after a number.
unfoldable pub label_arity : List ℕ → ℕ → ℕ
label_arity t l = cond (ltb l max_symbols) (arity_of t l) 0

-- The children of an application or an atom: as many as stand after its label, at most four, all terms made before.
pub record Arguments (t : List ℕ) (n : ℕ) : Type 0 where
  pub many : child_count t n ≡ label_arity t (label_of t n)
  pub few : child_count t n ≤ max_arity
  pub terms : (j : ℕ) → j < child_count t n → (child_of t n j < n) × IsTerm t (child_of t n j)

-- A term: a variable below 8, or an application.
pub record TermNode (t : List ℕ) (n : ℕ) : Type 0 where
  pub kind : kind_of t n ≤ application_kind
  pub variable : kind_of t n ≡ variable_kind → label_of t n < variable_names
  pub application : kind_of t n ≡ application_kind → Arguments t n
  pub size : size_of t n ≡ size (term_at t n)
  pub free : (v : ℕ) → v < variable_names → eqb (bit_of (mask_of t n) v) 1 ≡ free_t (term_at t n) v

pub record GoalNode (t : List ℕ) (n : ℕ) : Type 0 where
  pub least : atom_kind ≤ kind_of t n
  pub most : kind_of t n ≤ forall_kind
  pub atom : kind_of t n ≡ atom_kind → Arguments t n
  pub and : kind_of t n ≡ and_kind → (child_of t n 0 < n) × IsGoal t (child_of t n 0) × (child_of t n 1 < n) × IsGoal t (child_of t n 1)
  pub or : kind_of t n ≡ or_kind → (child_of t n 0 < n) × IsGoal t (child_of t n 0) × (child_of t n 1 < n) × IsGoal t (child_of t n 1)
  pub implies : kind_of t n ≡ implies_kind → (child_of t n 0 < n) × IsClause t (child_of t n 0) × (child_of t n 1 < n) × IsGoal t (child_of t n 1)
  pub exists : kind_of t n ≡ exists_kind → (label_of t n < variable_names) × (child_of t n 0 < n) × IsGoal t (child_of t n 0)
  pub forall : kind_of t n ≡ forall_kind → (label_of t n < variable_names) × (child_of t n 0 < n) × IsGoal t (child_of t n 0)
  pub free : (v : ℕ) → v < variable_names → eqb (bit_of (mask_of t n) v) 1 ≡ free_g (goal_at t n) v

-- What the U nodes from n on come to, n being U of variable v over node a.
pub record ChainNode (t : List ℕ) (n v a : ℕ) : Type 0 where
  pub below : below_of t n ≡ below_of t a
  pub names : chain_names t n ≡ names_over t v a
  pub count : chain_count t n ≡ count_over t v a

-- A clause: an atom, & of clauses, > from a goal to an atom, U of a clause.
pub record ClauseNode (t : List ℕ) (n : ℕ) : Type 0 where
  pub kind : (kind_of t n ≡ atom_kind → ⊥) → (kind_of t n ≡ and_kind → ⊥) → (kind_of t n ≡ implies_kind → ⊥) → kind_of t n ≡ forall_kind
  pub atom : kind_of t n ≡ atom_kind → Arguments t n
  pub and : kind_of t n ≡ and_kind → (child_of t n 0 < n) × IsClause t (child_of t n 0) × (child_of t n 1 < n) × IsClause t (child_of t n 1)
      × (members_of t n ≡ members_of t (child_of t n 0) + members_of t (child_of t n 1))
  pub implies : kind_of t n ≡ implies_kind → (child_of t n 0 < n) × IsGoal t (child_of t n 0) × (child_of t n 1 < n)
      × (kind_of t (child_of t n 1) ≡ atom_kind) × Arguments t (child_of t n 1)
  pub each : kind_of t n ≡ forall_kind → (label_of t n < variable_names) × (child_of t n 0 < n) × IsClause t (child_of t n 0)
      × (members_of t n ≡ members_of t (child_of t n 0))
  pub chain : kind_of t n ≡ forall_kind → ChainNode t n (label_of t n) (child_of t n 0)
  pub few : members_of t n ≤ max_members
  pub members : members_of t n ≡ length (members (clause_at_node t n))
  pub free : (v : ℕ) → v < variable_names → eqb (bit_of (mask_of t n) v) 1 ≡ free_c (clause_at_node t n) v

-- So many nodes and clauses, and the goal's node.
pub record WellMade (t : List ℕ) (nodes clauses goal : ℕ) : Type 0 where
  pub few_nodes : nodes ≤ max_nodes
  pub few_clauses : clauses ≤ max_clauses
  pub term : (n : ℕ) → n < nodes → IsTerm t n → TermNode t n
  pub goal_node : (n : ℕ) → n < nodes → IsGoal t n → GoalNode t n
  pub clause_nodes : (n : ℕ) → n < nodes → IsClause t n → ClauseNode t n
  pub clause : (i : ℕ) → i < clauses → (clause_node t i < nodes) × IsClause t (clause_node t i)
  pub goal_there : goal < nodes
  pub goal_is : IsGoal t goal

-- A label that is a symbol is one that is declared.
abbrev pub Declared : ℕ → ℕ → Type 0
Declared symbols l = l < max_symbols → l < symbols

-- What the label of an application or an atom is: a symbol, one that is declared, or, of an application alone, a number up to 65,535.
pub record Labelled (t : List ℕ) (symbols n : ℕ) : Type 0 where
  pub declared : Declared symbols (label_of t n)
  pub most : label_of t n ≤ max_symbols + max_number
  pub predicate : kind_of t n ≡ atom_kind → label_of t n < max_symbols

-- The applications and atoms of a table have such labels.
abbrev pub Named : List ℕ → ℕ → ℕ → Type 0
Named t nodes symbols = (n : ℕ) → n < nodes → application_kind ≤ kind_of t n → kind_of t n ≤ atom_kind → Labelled t symbols n
