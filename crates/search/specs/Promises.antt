-- Promises T2, T4, T5 and T7 about the search (demands 2 and 3), that every match in it is one of T3's, and what an act that follows a
-- binding does (request W-206).
use Rattle.std.specs.Prelude.{ℕ, suc, ◌+◌, ◌≤◌, ◌<◌, ◌≡◌, true, List, [], ◌∷◌, ◌++◌, map, ◌⊎◌, ◌↔◌}
use Rattle.std.proofs.Math.Option.{none, some}
use Rattle.terms.specs.Lists.{All, Mem, place}
use Rattle.terms.specs.Terms.{sheet_symbol, Term, app, substitutes}
use Rattle.formulas.specs.Formulas.{Goal, Clause, free_g, variable_names}
use Rattle.formulas.specs.Rules.{Order, Rules, rules}
use Rattle.sequents.specs.Symbols.{Symbol, level}
use Rattle.sequents.specs.Sequents.{Environment, Entry, entries, Line}
use Rattle.sequents.specs.Derivations.{instance_of, InstanceDerivation}
use Rattle.sequents.specs.Lines.{Derives}
use Rattle.sequents.specs.Promises.{Closed}
use Rattle.unification.specs.Store.{Leaf, Store, follow, solution}
use Rattle.unification.specs.Matching.{Pair, Matching, pairs, check, match_steps}
use Rattle.unification.specs.Labelled.{Labelling, Substitution, Unifier}
use Rattle.unification.specs.Promises.{Formed, read_pairs, Labels, Solved, Matches}
use Rattle.search.specs.Configurations.{Branch, Atom, Configuration, take, try, match, done}
use Rattle.search.specs.Steps.{proceed, try_from, tried_store, tried_environment, tried_branch, step}
use Rattle.search.specs.Search.{after, Verdict, proved, no_proof, verdict_of, ComesTo, ends, spent, search}
use Rattle.search.specs.Answers.{final, final_environment, final_lines}
use Rattle.search.specs.Paper.{g_atom, embed}
use Rattle.search.specs.Procedure.{PaperSequent, paper_sequent, apply_sequent, State, DerivationSequence, composition, answer_of}
use Rattle.search.specs.Procedure.{formulas_of, paper_of, initial}

-- T2, demand 3: "Whoever is told proved or no is told what the walk of document 01 comes to, with its units"; "told spent
-- exactly if the walk needs more units than the budget": an act is due after each number of acts up to it. What it comes to is one thing.
pub record Units (cs : Rules Clause) (g : Goal) : Type 0 where
  pub tells : (budget n : ℕ) (v : Verdict) → (search budget cs g ≡ ends v n) ↔ (ComesTo cs g n v × (n ≤ budget))
  pub spends : (budget : ℕ) → (search budget cs g ≡ spent) ↔ ((n : ℕ) (v : Verdict) → ComesTo cs g n v → budget < n)
  pub due : (budget : ℕ) → (search budget cs g ≡ spent) ↔ ((n : ℕ) → n ≤ budget → verdict_of (after cs g n) ≡ none)
  pub once : (n m : ℕ) (v w : Verdict) → ComesTo cs g n v → ComesTo cs g m w → (n ≡ m) × (v ≡ w)

-- The two atoms of a try: the one taken, and the member's head with the fresh variables for its prefix.
abbrev pub tried_atoms : Store → Atom → Entry Leaf → List Pair
tried_atoms s a m = record {
  goal = app (sheet_symbol a.predicate) a.arguments;
  clause = app (sheet_symbol m.member.predicate) (substitutes m.member.arguments (tried_environment s m));
} ∷ []

-- T3 of a try: the member m stands at place k among the members at the atom a, and its match is one of T3's.
pub record Trying (s : Store) (a : Atom) (m : Entry Leaf) (k : ℕ) : Type 0 where
  pub formed : Formed s
  pub within : Mem m (entries a.program)
  pub stands : place 1 within ≡ k
  pub matches : (L : Labelling) → Labels L (tried_store s a m) → Matches (tried_store s a m) (tried_atoms s a m) L

-- A match under way, the branch being b if it succeeds, is that of a try. Comparing the predicates, its first step, is part of the try.
pub record MatchUnderWay (m : Matching) (b : Branch) : Type 0 where
  pub store : Store
  pub atom : Atom
  pub member : Entry Leaf
  pub k : ℕ
  pub before : Branch
  pub acts : ℕ
  pub trying : Trying store atom member k
  pub comes : match_steps (suc acts) (pairs (tried_store store atom member) (tried_atoms store atom member)) ≡ m
  pub branch : b ≡ tried_branch store atom member k before

-- Every store of a search is one of T3's, every try's match is one of T3's, and a match under way belongs to its try.
unfoldable pub WellFormed : Configuration → Type 0
WellFormed (take s g b) = Formed s
WellFormed (try s a m ms k b) = Trying s a m k
WellFormed (match m b) = MatchUnderWay m b
WellFormed (done s ls) = Formed s

-- Demand 2: "A match that is not cut off by the budget succeeds exactly if a unifier that respects the levels exists, and the most general
-- one is bound." Of the search itself: a try that is due after n acts, the alternatives being ds, ends after some acts more. Either
-- its branch is gone on with, a most general unifier of the two atoms being bound; or there is no unifier, and the members left are next.
abbrev pub Matched : Store → Atom → Entry Leaf → ℕ → Branch → Labelling → List Configuration → List Configuration → Type 0
Matched s a m k b L rest ds =
    (s' : Store) × (ds ≡ proceed s' (tried_branch s a m k b).goals (tried_branch s a m k b).path ++ rest)
    × Solved L (tried_store s a m) (tried_atoms s a m) s'

abbrev pub NotMatched : Store → Atom → Entry Leaf → Labelling → List Configuration → List Configuration → Type 0
NotMatched s a m L rest ds =
    (ds ≡ rest) × ((φ : Substitution) → Unifier L (read_pairs (tried_store s a m) (tried_atoms s a m)) φ → ⊥)

abbrev pub AllTries : Type 0
AllTries = (cs : Rules Clause) (g : Goal) (n : ℕ) (s : Store) (a : Atom) (m : Entry Leaf) (ms : List (Entry Leaf)) (k : ℕ) (b : Branch)
    (ds : List Configuration) → after cs g n ≡ try s a m ms k b ∷ ds
    → (L : Labelling) → Labels L (tried_store s a m)
    → (acts : ℕ) × (Matched s a m k b L (try_from s a ms (suc k) b ++ ds) (after cs g (suc n + acts))
    ⊎ NotMatched s a m L (try_from s a ms (suc k) b ++ ds) (after cs g (suc n + acts)))

-- T4, demand 2: "Every run follows the derivation steps of Nadathur's CS-1992-17, in the order of document 01". Goals gs with a
-- store and the lines so far: there is a derivation sequence of definition 7 from the first state, with the case of
-- definition 6 that each line names, to a state whose goals are gs, bindings applied.
pub record Follows (cs : Rules Clause) (g : Goal) (s : Store) (gs : List PaperSequent) (path : List (Line Leaf)) : Type 0 where
  pub state : State
  pub sequence : DerivationSequence (initial cs g) path state
  pub goals : state.goals ≡ map (apply_sequent (solution s)) gs
  -- The state's labels are the store's levels, and the bindings are the composition of the sequence's substitutions.
  pub labels : Labels state.labels s
  pub answer : (x : ℕ) → composition sequence x ≡ solution s x

-- The sequent of an atom that was taken.
abbrev pub atom_sequent : Atom → PaperSequent
atom_sequent a = paper_sequent (g_atom a.predicate (substitutes a.arguments embed)) (formulas_of a.program) a.level

-- A match under way has not yet led on: its atom is still to be derived, the goals that wait and the lines being those before the try.
unfoldable pub FollowsSteps : Rules Clause → Goal → Configuration → Type 0
FollowsSteps cs g (take s q b) = Follows cs g s (map paper_of (q ∷ b.goals)) b.path
FollowsSteps cs g (try s a m ms k b) = Follows cs g s (atom_sequent a ∷ map paper_of b.goals) b.path
FollowsSteps cs g (match m b) = (w : MatchUnderWay m b) × Follows cs g w.store (atom_sequent w.atom ∷ map paper_of w.before.goals)
    w.before.path
FollowsSteps cs g (done s ls) = Follows cs g s [] ls

pub record DerivationSteps (cs : Rules Clause) (g : Goal) : Type 0 where
  pub formed : (n : ℕ) → All WellFormed (after cs g n)
  pub follows : (n : ℕ) → All (FollowsSteps cs g) (after cs g n)
  -- Definition 8: a proved search is a derivation of the goal; its answer substitution is what the final store gives.
  pub derivation : (budget n : ℕ) (s : Store) (path : List (Line Leaf)) → search budget cs g ≡ ends (proved s path) n
      → (f : Follows cs g s [] path) × ((l : Leaf) → answer_of f.sequence l ≡ final s l)

-- T5: the lines of a proved search, with final bindings and levels, derive that instance of the goal.
pub record Sound (cs : Rules Clause) (g : Goal) (s : Store) (path : List (Line Leaf)) : Type 0 where
  pub level0 : (v : ℕ) → level (final_environment s v) ≤ 0
  pub derives : Derives (final_lines s path) (instance_of cs g (final_environment s) ∷ [])

abbrev pub Soundness : Type 0
Soundness =
    (cs : Rules Clause) (g : Goal) (budget n : ℕ) (s : Store) (path : List (Line Leaf)) → search budget cs g ≡ ends (proved s path) n
    → Sound cs g s path

-- The goal's free variables are names of a sheet, 0 to 7: the names to which the start gives a variable.
abbrev pub SheetNames : Goal → Type 0
SheetNames g = (v : ℕ) → free_g g v ≡ true → v < variable_names

-- T7, demand 3: "whoever holds a sequent derivation of some instance of the goal, its free variables replaced by terms of level
-- 0, is never told no".
abbrev pub Completeness : Type 0
Completeness = (cs : Rules Clause) (g : Goal) (e : Environment Symbol) → All Closed cs.clauses → SheetNames g
    → InstanceDerivation cs g e → (budget n : ℕ) → search budget cs g ≡ ends no_proof n → ⊥

-- Request W-207: "No goal is told proved under one order and no under the other", whatever the budgets.
abbrev pub OneVerdict : Type 0
OneVerdict = (o p : Order) (cs : List Clause) (g : Goal) → All Closed cs → SheetNames g
    → (budget n : ℕ) (s : Store) (path : List (Line Leaf)) → search budget (rules o cs) g ≡ ends (proved s path) n
    → (other m : ℕ) → search other (rules p cs) g ≡ ends no_proof m → ⊥

-- Request W-206: "each binding looked through takes one unit, wherever it happens in the walk". The act that follows a binding, u acts
-- having been done, does only this: store, goals and path are as they were, and so is what is left to compare or to look at.
pub record FollowingSteps (u : ℕ) (s : Store) (ps : List Pair) (b : Branch) : Type 0 where
  pub goal : (p : Pair) (t : Term Leaf) → follow s.bindings p.goal ≡ some t
      → step u (match (pairs s (p ∷ ps)) b) ≡ match (pairs s (record { goal = t; clause = p.clause } ∷ ps)) b ∷ []
  pub clause : (p : Pair) (t : Term Leaf) → follow s.bindings p.goal ≡ none → follow s.bindings p.clause ≡ some t
      → step u (match (pairs s (p ∷ ps)) b) ≡ match (pairs s (record { goal = p.goal; clause = t } ∷ ps)) b ∷ []
  pub node : (y : ℕ) (t n v : Term Leaf) (ns : List (Term Leaf)) → follow s.bindings n ≡ some v
      → step u (match (check s y t n ns ps) b) ≡ match (check s y t v ns ps) b ∷ []

abbrev pub SearchFollows : Type 0
SearchFollows = (u : ℕ) (s : Store) (ps : List Pair) (b : Branch) → FollowingSteps u s ps b

-- Promise T2 is for all clauses and every goal.
abbrev pub AllUnits : Type 0
AllUnits = (cs : Rules Clause) (g : Goal) → Units cs g

-- Promise T4 is for all clauses and every goal.
abbrev pub AllSteps : Type 0
AllSteps = (cs : Rules Clause) (g : Goal) → DerivationSteps cs g
