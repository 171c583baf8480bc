-- The state of a search (a "walk"): the configuration that is acted upon, and the open alternatives, latest first. Each keeps
-- its own store, so that an alternative is taken up "with all bindings and levels as they were" by going on with it.
use Rattle.std.specs.Prelude.{ℕ, List}
use Rattle.terms.specs.Terms.{Terms}
use Rattle.sequents.specs.Sequents.{Program, Entry, Sequent, Line}
use Rattle.unification.specs.Store.{Leaf, Store}
use Rattle.unification.specs.Matching.{Matching}

-- The open goals after the one acted upon, and the D lines of the goals taken on this branch, latest first.
pub record Branch : Type 0 where
  pub goals : List (Sequent Leaf)
  pub path : List (Line Leaf)

abbrev pub branch : List (Sequent Leaf) → List (Line Leaf) → Branch
branch gs ls = record { goals = gs; path = ls }

-- An atom that was taken: its predicate and arguments, its program and level.
pub record Atom : Type 0 where
  pub predicate : ℕ
  pub arguments : Terms Leaf
  pub program : Program Leaf
  pub level : ℕ

-- One act is due: taking a goal; trying a member (with the members left after it, and its place); an act of matching.
-- Or the list of goals is empty.
pub data Configuration : Type 0 where
  take : Store → Sequent Leaf → Branch → Configuration
  try : Store → Atom → Entry Leaf → List (Entry Leaf) → ℕ → Branch → Configuration
  match : Matching → Branch → Configuration
  done : Store → List (Line Leaf) → Configuration
