-- This file reads the registers and the work buffer back as a configuration of the search: the open goals, and what the act that is
-- due works on (Reading has the store and the path). t is the table, c the number of the sheet's clauses. Where a chain of records is
-- followed, the first number bounds its length: an act makes at most one record.
use Rattle.std.specs.Prelude.{ℕ, zero, suc, ◌-◌, ◌*◌, true, false, List, [], ◌∷◌, ◌++◌, map, eqb, drop}
use Rattle.terms.specs.Terms.{Term, substitutes}
use Rattle.formulas.specs.Rules.{oldest, latest, rules, assume}
use Rattle.sequents.specs.Sequents.{Program, Hypothesis, hypothesis, Entry, entries_of, Sequent, sequent}
use Rattle.unification.specs.Store.{Leaf}
use Rattle.unification.specs.Matching.{Pair}
use Rattle.search.specs.Configurations.{Atom}
use Rattle.search.specs.Search.{start_environment}
use Rattle.sheet_format.specs.Limits.{max_arity}
use Rattle.node_table.specs.Layout.{label_of}
use Rattle.node_table.specs.Decoding.{arguments_at, goal_at, clause_at_node, clauses_from, order_of}
use Rattle.machine.specs.declared.Registers.{Registers}
use Rattle.machine.specs.Fields as fields
use Rattle.machine.specs.Records.{Made}
use Rattle.machine.specs.Words.{environment_at, term_of}
use Rattle.machine.specs.AssumptionChains.{parent_of}
use Rattle.machine.specs.Backchaining.{clause_of, clause_frame}
use Rattle.machine.specs.Matching.{argument_word, pairs_after, left_word, right_word, due_word, nodes_after}
use Rattle.memory.specs.Records.{field}

-- The sheet's clauses from the i-th on.
unfoldable pub sheet_clauses : List ℕ → ℕ → ℕ → List (Hypothesis Leaf)
sheet_clauses t c i = map (λ d. hypothesis d start_environment) (clauses_from t (c - i) i)

-- The assumption that pointer h names.
unfoldable pub assumption_at : List ℕ → List ℕ → ℕ → Hypothesis Leaf
assumption_at t w h =
    hypothesis (clause_at_node t (field w (h - 1) fields.assumption_node)) (environment_at w (field w (h - 1) fields.assumption_frame))

-- The program of the assumptions from pointer h on, at most n: the sheet's clauses, and each assumed after those before it.
unfoldable pub program_from : ℕ → List ℕ → ℕ → List ℕ → ℕ → Program Leaf
program_from zero t c w h = rules (order_of t) (sheet_clauses t c 0)
program_from (suc n) t c w h =
    elim (eqb h 0) [
      | true ↦ rules (order_of t) (sheet_clauses t c 0)
      | false ↦ assume (assumption_at t w h) (program_from n t c w (parent_of w h))
    ]

-- The goal of node a in frame f, with the assumptions from h on and the whole sheet, at level i.
unfoldable pub sequent_at : List ℕ → ℕ → Made → ℕ → ℕ → ℕ → ℕ → Sequent Leaf
sequent_at t c m a f h i = sequent (goal_at t a) (environment_at m.memory f) (program_from m.registers.acts t c m.memory h) i

-- The goals that wait, from pointer p on, at most n.
unfoldable pub goals_from : ℕ → List ℕ → ℕ → Made → ℕ → List (Sequent Leaf)
goals_from zero t c m p = []
goals_from (suc n) t c m p =
    elim (eqb p 0) [
      | true ↦ []
      | false ↦
          sequent_at t c m (field m.memory (p - 1) fields.goal_node) (field m.memory (p - 1) fields.goal_frame)
          (field m.memory (p - 1) fields.goal_program) (field m.memory (p - 1) fields.goal_level)
          ∷ goals_from n t c m (field m.memory (p - 1) fields.goal_next)
    ]

-- The open goals after the one acted upon.
unfoldable pub open_goals : List ℕ → ℕ → Made → List (Sequent Leaf)
open_goals t c m = goals_from m.registers.acts t c m m.registers.goals

-- The goal to take.
unfoldable pub goal_due : List ℕ → ℕ → Made → Sequent Leaf
goal_due t c m = sequent_at t c m m.registers.node m.registers.frame m.registers.program m.registers.level

-- The atom whose members are tried.
unfoldable pub atom_due : List ℕ → ℕ → Made → Atom
atom_due t c m = record {
  predicate = label_of t m.registers.node;
  arguments = substitutes (arguments_at t m.registers.node) (environment_at m.memory m.registers.frame);
  program = program_from m.registers.acts t c m.memory m.registers.program;
  level = m.registers.level;
}

-- The assumptions from pointer h on, at most n, latest first.
unfoldable pub assumptions_from : ℕ → List ℕ → List ℕ → ℕ → List (Hypothesis Leaf)
assumptions_from zero t w h = []
assumptions_from (suc n) t w h = elim (eqb h 0) [ true ↦ [] | false ↦ assumption_at t w h ∷ assumptions_from n t w (parent_of w h) ]

-- The assumptions from pointer p on that were made after h, at most n, oldest first.
unfoldable pub assumptions_after : ℕ → List ℕ → List ℕ → ℕ → ℕ → List (Hypothesis Leaf)
assumptions_after zero t w p h = []
assumptions_after (suc n) t w p h =
    elim (eqb p h) [ true ↦ [] | false ↦ assumptions_after n t w (parent_of w p) h ++ (assumption_at t w p ∷ []) ]

-- The clauses that are tried after the one that the registers name, in the order in force (request W-207); at most n assumptions.
unfoldable pub clauses_later : ℕ → List ℕ → ℕ → List ℕ → Registers → List (Hypothesis Leaf)
clauses_later n t c w r =
    elim (order_of t) [
      | oldest ↦
          elim (eqb r.hypothesis 0) [
            | true ↦ sheet_clauses t c (suc r.clause) ++ assumptions_after n t w r.program 0
            | false ↦ assumptions_after n t w r.program r.hypothesis
          ]
      | latest ↦
          elim (eqb r.hypothesis 0) [
            | true ↦ sheet_clauses t c (suc r.clause)
            | false ↦ assumptions_from n t w (parent_of w r.hypothesis) ++ sheet_clauses t c 0
          ]
    ]

-- The members left to try: those of the clause that the registers name, without its first ones, then those of the clauses after it.
unfoldable pub members_due : List ℕ → ℕ → Made → List (Entry Leaf)
members_due t c m =
    drop m.registers.member
    (entries_of (hypothesis (clause_at_node t (clause_of t m.memory m.registers)) (environment_at m.memory
    (clause_frame m.memory m.registers))
    ∷ clauses_later m.registers.acts t c m.memory m.registers))

-- The pairs that wait, from position a on, at most n.
unfoldable pub waiting_pairs : ℕ → List ℕ → List ℕ → ℕ → List Pair
waiting_pairs zero t w a = []
waiting_pairs (suc n) t w a =
    elim (eqb a 0) [
      | true ↦ []
      | false ↦
          record {
            goal = term_of t w (argument_word t w a fields.goal_side_node);
            clause = term_of t w (argument_word t w a fields.clause_side_node);
          }
          ∷ waiting_pairs n t w (pairs_after t w a)
    ]

-- The pair that is due, as far as it is looked through, and the pairs left after it. A record has at most four.
unfoldable pub pair_due : List ℕ → Made → Pair
pair_due t m = record {
  goal = term_of t m.memory (left_word t m.memory m.registers);
  clause = term_of t m.memory (right_word t m.memory m.registers);
}

unfoldable pub pairs_next : List ℕ → Made → List Pair
pairs_next t m = waiting_pairs (max_arity * m.registers.acts) t m.memory (pairs_after t m.memory m.registers.pairs)

-- The pairs left to compare after a range check.
unfoldable pub pairs_left : List ℕ → Made → List Pair
pairs_left t m = waiting_pairs (max_arity * m.registers.acts) t m.memory m.registers.pairs

-- The nodes of a range check that wait, from position a on, at most n.
unfoldable pub waiting_nodes : ℕ → List ℕ → List ℕ → ℕ → List (Term Leaf)
waiting_nodes zero t w a = []
waiting_nodes (suc n) t w a =
    elim (eqb a 0) [
      | true ↦ []
      | false ↦ term_of t w (argument_word t w a fields.waiting_node) ∷ waiting_nodes n t w (nodes_after t w a)
    ]

-- The nodes left to look at after the one that is due.
unfoldable pub nodes_left : List ℕ → Made → List (Term Leaf)
nodes_left t m = waiting_nodes (max_arity * m.registers.acts) t m.memory (nodes_after t m.memory m.registers.nodes)

-- The node that is due in a range check, as far as it is looked through.
unfoldable pub node_due : List ℕ → Made → Term Leaf
node_due t m = term_of t m.memory (due_word t m.memory m.registers)
