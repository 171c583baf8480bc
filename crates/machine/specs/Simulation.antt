-- What is proved of the machine: it does the search of level 1, act for act, whatever the lent buffer held before.
use Rattle.std.specs.Prelude.{ℕ, ◌+◌, ◌*◌, ◌≤◌, ◌<◌, ◌≡◌, List, [], ◌∷◌, length}
use Rattle.terms.specs.Terms.{Term, leaf}
use Rattle.sequents.specs.Sequents.{Line}
use Rattle.unification.specs.Store.{Leaf, var, Store}
use Rattle.unification.specs.Matching.{Pair, pairs, check, fail}
use Rattle.search.specs.Configurations.{Branch, branch, Configuration, take, try, match, done}
use Rattle.search.specs.Search.{proved, no_proof, SearchOutcome, ends, spent, search, after}
use Rattle.sheet_format.specs.Limits.{max_budget, numbers_per_unit}
use Rattle.formulas.specs.Rules.{rules}
use Rattle.node_table.specs.Decoding.{clauses_from, goal_at, order_of}
use Rattle.node_table.specs.WellMade.{WellMade}
use Rattle.machine.specs.declared.Registers.{Registers}
use Rattle.machine.specs.Records.{Made, proved_mode, check_mode, compare_mode, try_mode, take_mode, no_mode}
use Rattle.machine.specs.Words.{term_of}
use Rattle.machine.specs.ChoicePoints.{failed}
use Rattle.machine.specs.Machine.{run_acts, run_machine}
use Rattle.machine.specs.Reading.{Holds, path_from}
use Rattle.machine.specs.ReadingStates.{open_goals, goal_due, atom_due, members_due, pair_due, pairs_next, pairs_left, node_due, nodes_left}

-- The registers and the memory stand at a branch with this mode, store and path.
pub record StandsAt (t : List ℕ) (m : Made) (due : ℕ) (s : Store) (ls : List (Line Leaf)) : Type 0 where
  pub mode : m.registers.mode ≡ due
  pub store : Holds t m.memory m.registers s
  pub path : path_from m.registers.acts m.memory m.registers.path m.registers.line ≡ ls

-- They stand at this branch: its open goals, with their programs, environments and levels, and its path.
pub record StandsAtBranch (t : List ℕ) (c : ℕ) (m : Made) (due : ℕ) (s : Store) (b : Branch) : Type 0 where
  pub at : StandsAt t m due s b.path
  pub goals : open_goals t c m ≡ b.goals

-- They stand at a range check: the variable and the value to bind it to, the node due, the nodes left, the pairs left.
pub record StandsAtCheck (t : List ℕ) (m : Made) (y : ℕ) (v n : Term Leaf) (ns : List (Term Leaf)) (ps : List Pair) : Type 0 where
  pub variable : term_of t m.memory m.registers.left ≡ leaf (var y)
  pub value : term_of t m.memory m.registers.right ≡ v
  pub node : node_due t m ≡ n
  pub nodes : nodes_left t m ≡ ns
  pub pairs : pairs_left t m ≡ ps

-- They stand at a configuration: its branch, and what the act that is due works on. No failed match stands: it is left at once.
unfoldable pub StandsAtConfiguration : List ℕ → ℕ → Made → Configuration → Type 0
StandsAtConfiguration t c m (take s g b) = StandsAtBranch t c m take_mode s b × (goal_due t c m ≡ g)
StandsAtConfiguration t c m (try s a e es k b) =
    StandsAtBranch t c m try_mode s b × (atom_due t c m ≡ a) × (members_due t c m ≡ e ∷ es) × (m.registers.place ≡ k)
StandsAtConfiguration t c m (match (pairs s ps) b) = StandsAtBranch t c m compare_mode s b × (pair_due t m ∷ pairs_next t m ≡ ps)
StandsAtConfiguration t c m (match (check s y v n ns ps) b) = StandsAtBranch t c m check_mode s b × StandsAtCheck t m y v n ns ps
StandsAtConfiguration t c m (match fail b) = ⊥
StandsAtConfiguration t c m (done s ls) = StandsAtBranch t c m proved_mode s (branch [] ls)

-- The machine stands where the search does: at the configuration acted upon; and what failing there takes it to stands at the open
-- alternatives, each with its own store, goals and path. Where no alternative is left, the verdict is no.
unfoldable pub Stands : List ℕ → ℕ → Made → List Configuration → Type 0
Stands t c m [] = m.registers.mode ≡ no_mode
Stands t c m (x ∷ cs) = StandsAtConfiguration t c m x × Stands t c (failed m.memory m.registers) cs

-- The machine tells what the search tells: outcome and units; if proved, the final store and the path.
unfoldable pub Reports : List ℕ → Made → SearchOutcome → Type 0
Reports t m (ends (proved s ls) n) = StandsAt t m proved_mode s ls × (m.registers.acts ≡ n)
Reports t m (ends no_proof n) = (m.registers.mode ≡ no_mode) × (m.registers.acts ≡ n)
Reports t m spent = m.registers.mode < proved_mode

-- Within a permitted budget, with 64 numbers for each unit: outcome, units, bindings, levels and path are level 1's.
abbrev pub Simulates : Type 0
Simulates =
    (t : List ℕ) (nodes clauses goal : ℕ) → WellMade t nodes clauses goal → (budget : ℕ) → budget ≤ max_budget → (w : List ℕ)
    → numbers_per_unit * budget ≤ length w
    → Reports t (run_machine budget t clauses goal w) (search budget (rules (order_of t) (clauses_from t clauses 0)) (goal_at t goal))

-- After each number n of acts, of those that the buffer has room for, it stands at the whole state of the search after n acts; n acts
-- and then m are n + m acts.
abbrev pub Follows : Type 0
Follows =
    (t : List ℕ) (nodes clauses goal : ℕ) → WellMade t nodes clauses goal → (n : ℕ) → n ≤ max_budget → (w : List ℕ)
    → numbers_per_unit ≤ length w → numbers_per_unit * n ≤ length w
    → Stands t clauses (run_machine n t clauses goal w) (after (rules (order_of t) (clauses_from t clauses 0)) (goal_at t goal) n)

abbrev pub Resumes : Type 0
Resumes =
    (t : List ℕ) (c n m : ℕ) (w : List ℕ) (r : Registers)
    → run_acts (n + m) t c w r ≡ run_acts m t c (run_acts n t c w r).memory (run_acts n t c w r).registers

-- The buffer keeps its length.
abbrev pub KeepsLength : Type 0
KeepsLength = (n : ℕ) (t : List ℕ) (c : ℕ) (w : List ℕ) (r : Registers) → length (run_acts n t c w r).memory ≡ length w
