-- Document 01, the paragraph after the table: what a node is. "Terms on a sheet are V and F applications ... Goals are ... Clauses
-- are ... A node may be goal and clause." Request W-204 adds the numbers of N lines to the terms. Nodes are made from nodes already
-- there, so that shared ones stand for themselves.
use Rattle.std.specs.Prelude.{ℕ, ◌+◌, Bool, true, false, ◌||◌, cond, List, [], ◌∷◌, eqb, leb, length}
use Rattle.std.proofs.Math.Option.{Option, none, some, map}
use Rattle.std.proofs.Math.ListN.{get_elem?}
use Rattle.terms.specs.Terms.{sheet_symbol, number_term, Term, leaf, app, Terms, nil, cons, size}
use Rattle.formulas.specs.Formulas.{Goal, atom, truth, and, or, implies, exists, forall, Clause, fact, rule, both, each}
use Rattle.sheet_format.specs.Limits.{max_term_size, max_members}
use Rattle.sheet_format.specs.SheetLines.{number_line, NodeLine, variable_line, apply_line, true_line, and_line, or_line, implies_line, some_line}
use Rattle.sheet_format.specs.SheetLines.{every_line}

-- A symbol: is it a function symbol (F) or a predicate (P), its name, its arity.
pub record Declaration : Type 0 where
  pub function : Bool
  pub name : List ℕ
  pub arity : ℕ

-- A node as a term, as a goal and as a clause, where it is one.
pub record Node : Type 0 where
  pub term : Option (Term ℕ)
  pub goal : Option Goal
  pub clause : Option Clause

unfoldable pub neither : Node
neither = record { term = none; goal = none; clause = none }

-- "an atom or > is one member; & gives the left's, then the right's": how many there are, without listing them.
unfoldable pub member_count : Clause → ℕ
member_count (fact p ts) = 1
member_count (rule g p ts) = 1
member_count (both a b) = member_count a + member_count b
member_count (each v c) = member_count c

-- Both values by a function, where there are both.
unfoldable pub map2 : {A B C : Type 0} → (A → B → C) → Option A → Option B → Option C
map2 f none b = none
map2 f (some a) none = none
map2 f (some a) (some b) = some (f a b)

-- The nodes as terms.
unfoldable pub term_nodes : List Node → Option (Terms ℕ)
term_nodes [] = some nil
term_nodes (n ∷ ns) = map2 cons n.term (term_nodes ns)

-- "at most 1,024 variables and symbols, counted as often as they stand"
unfoldable pub sized : Term ℕ → Option (Term ℕ)
sized t = cond (leb (size t) max_term_size) (some t) none

-- F applied: a term. P applied: an atom, which is a goal and a clause.
unfoldable pub term_node : Option (Term ℕ) → Node
term_node t = record { term = t; goal = none; clause = none }

unfoldable pub applied : Bool → ℕ → Option (Terms ℕ) → Node
applied true f none = neither
applied true f (some ts) = term_node (sized (app (sheet_symbol f) ts))
applied false p none = neither
applied false p (some ts) = record { term = none; goal = some (atom p ts); clause = some (fact p ts) }

-- "symbol applied to its arity of terms"
unfoldable pub apply_node : Declaration → ℕ → List Node → Node
apply_node d f ns = cond (eqb (length ns) d.arity) (applied d.function f (term_nodes ns)) neither

-- Both clauses, "with at most 64 members in all"
unfoldable pub both_clauses : Option Clause → Option Clause → Option Clause
both_clauses none d = none
both_clauses (some c) none = none
both_clauses (some c) (some d) = cond (leb (member_count c + member_count d) max_members) (some (both c d)) none

-- "> from a goal to an atom"
unfoldable pub ruled : Option Goal → Option Goal → Option Clause
ruled none h = none
ruled (some g) none = none
ruled (some g) (some (atom p ts)) = some (rule g p ts)
ruled (some g) (some truth) = none
ruled (some g) (some (and a b)) = none
ruled (some g) (some (or a b)) = none
ruled (some g) (some (implies c a)) = none
ruled (some g) (some (exists v a)) = none
ruled (some g) (some (forall v a)) = none

-- The nodes of these numbers.
unfoldable pub nodes_at : List Node → List ℕ → Option (List Node)
nodes_at nodes [] = some []
nodes_at nodes (i ∷ is) = map2 ◌∷◌ (get_elem? nodes i) (nodes_at nodes is)

-- The node that a line makes; none where it "names a symbol or node not yet there". "> from a clause to a goal" is a goal.
unfoldable pub node_of : List Declaration → List Node → NodeLine → Option Node
node_of symbols nodes (variable_line v) = some (term_node (some (leaf v)))
node_of symbols nodes (number_line n) = some (term_node (some (number_term n)))
node_of symbols nodes (apply_line f ns) = map2 (λ d. apply_node d f) (get_elem? symbols f) (nodes_at nodes ns)
node_of symbols nodes true_line = some (record { term = none; goal = some truth; clause = none })
node_of symbols nodes (and_line n m) =
    map2 (λ a b. record { term = none; goal = map2 and a.goal b.goal; clause = both_clauses a.clause b.clause })
    (get_elem? nodes n) (get_elem? nodes m)
node_of symbols nodes (or_line n m) =
    map2 (λ a b. record { term = none; goal = map2 or a.goal b.goal; clause = none }) (get_elem? nodes n) (get_elem? nodes m)
node_of symbols nodes (implies_line n m) =
    map2 (λ a b. record { term = none; goal = map2 implies a.clause b.goal; clause = ruled a.goal b.goal }) (get_elem? nodes n)
    (get_elem? nodes m)
node_of symbols nodes (some_line v n) =
    map (λ a. record { term = none; goal = map (exists v) a.goal; clause = none }) (get_elem? nodes n)
node_of symbols nodes (every_line v n) =
    map (λ a. record { term = none; goal = map (forall v) a.goal; clause = map (each v) a.clause })
    (get_elem? nodes n)

-- "A node is neither term, goal nor clause"
unfoldable pub is_some : {A : Type 0} → Option A → Bool
is_some none = false
is_some (some a) = true

unfoldable pub is_something : Node → Bool
is_something n = is_some n.term || is_some n.goal || is_some n.clause
