-- The table that is being made, read back as the reader's state of document 01's definitions; and when a line's answer agrees with
-- theirs.
use Rattle.std.specs.Prelude.{ℕ, zero, suc, ◌≤◌, ◌<◌, ◌≡◌, cond, List, [], ◌∷◌, leb, eqb, length, drop, Result, Ok, Err}
use Rattle.std.proofs.Math.Option.{none, some}
use Rattle.outcomes.specs.declared.refusals.Reason.{Reason}
use Rattle.outcomes.specs.Refusals.{number_of}
use Rattle.sheet_format.specs.Nodes.{Node}
use Rattle.sheet_format.specs.Sheets.{Table, next, stop, last}
use Rattle.sheet_format.specs.Sheets.{Taken as SheetTaken}
use Rattle.sheet_format.specs.Limits.{max_nodes, table_numbers, max_symbols, max_clauses}
use Rattle.node_table.specs.Layout.{kind_of, goal_bit, members_of, size_of, clause_node, application_kind}
use Rattle.node_table.specs.Layout.{atom_kind, order_number}
use Rattle.node_table.specs.Fingerprints.{NamesStand}
use Rattle.node_table.specs.Decoding.{term_at, goal_at, clause_at_node, declarations_from, clauses_from}
use Rattle.node_table.specs.WellMade.{IsTerm, IsGoal, IsClause, Labelled, TermNode, GoalNode, ClauseNode}
use Rattle.table_builder.specs.declared.node_info.Counts.{Counts}
use Rattle.table_builder.specs.Nodes.{Made}

-- A node as a term, as a goal and as a clause, where it is one.
unfoldable pub node_read : List ℕ → ℕ → Node
node_read t n = record {
  term = cond (leb 1 (size_of t n)) (some (term_at t n)) none;
  goal = cond (eqb (goal_bit t n) 1) (some (goal_at t n)) none;
  clause = cond (leb 1 (members_of t n)) (some (clause_at_node t n)) none;
}

-- The nodes from the n-th on, c of them.
unfoldable pub nodes_from : List ℕ → ℕ → ℕ → List Node
nodes_from t zero n = []
nodes_from t (suc c) n = node_read t n ∷ nodes_from t c (suc n)

-- The reader's state.
unfoldable pub table_of : List ℕ → List ℕ → Counts → Table
table_of bytes t k =
    record { symbols = declarations_from bytes t k.symbols 0; nodes = nodes_from t k.nodes 0; clauses = clauses_from t k.clauses 0 }

-- What holds of the table after every line. Symbols are named by their bytes on the sheet; the labels of applications and atoms are symbols
-- that are there, or numbers.
pub record Decodes (bytes t : List ℕ) (k : Counts) : Type 0 where
  pub long : table_numbers ≤ length t
  pub few_symbols : k.symbols ≤ max_symbols
  pub few_nodes : k.nodes ≤ max_nodes
  pub few_clauses : k.clauses ≤ max_clauses
  pub names : NamesStand bytes t k.symbols
  pub named : (n : ℕ) → n < k.nodes → application_kind ≤ kind_of t n → kind_of t n ≤ atom_kind → Labelled t k.symbols n
  pub term : (n : ℕ) → n < k.nodes → IsTerm t n → TermNode t n
  pub goal : (n : ℕ) → n < k.nodes → IsGoal t n → GoalNode t n
  pub clause : (n : ℕ) → n < k.nodes → IsClause t n → ClauseNode t n
  pub clauses : (i : ℕ) → i < k.clauses → (clause_node t i < k.nodes) × IsClause t (clause_node t i)

-- With so many symbols, nodes and clauses the table is what the definitions make of a line; the node is the goal that they find.
abbrev pub TableIs : List ℕ → List ℕ → Counts → SheetTaken → Type 0
TableIs bytes t j s = (s ≡ next (table_of bytes t j)) × Decodes bytes t j

abbrev pub GoalIs : Counts → List ℕ → ℕ → SheetTaken → Type 0
GoalIs k t n s = (s ≡ last (goal_at t n)) × (n < k.nodes) × IsGoal t n

-- The answer to a line is the one of the definitions: if it is taken, by P; otherwise they refuse it for the same reason.
unfoldable pub Agrees : {A : Type 0} → (A → SheetTaken → Type 0) → Result A Reason → SheetTaken → Type 0
Agrees P (Ok a) s = P a s
Agrees P (Err reason) s = s ≡ stop (number_of reason)

-- The same, and from 8,192 on the table is as it was. So is the number of the order in force (request W-207).
pub record Follows {A : Type 0} (P : List ℕ → A → SheetTaken → Type 0) (t : List ℕ) (m : Made A) (s : SheetTaken) : Type 0 where
  pub agrees : Agrees (P m.table) m.answer s
  pub long : length m.table ≡ length t
  pub rest : drop table_numbers m.table ≡ drop table_numbers t
  pub order : order_number m.table ≡ order_number t
