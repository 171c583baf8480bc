-- What holds of derivations whoever made them (used for demands 2 and 3): trees and lines are one thing, numbers of symbols do
-- not matter, and an environment matters only at names that stand free.
use Rattle.std.specs.Prelude.{ℕ, ◌≡◌, true, List, [], ◌∷◌, ◌++◌, map, reverse}
use Rattle.terms.specs.Lists.{All}
use Rattle.formulas.specs.Formulas.{Goal, Clause, free_g, free_c}
use Rattle.formulas.specs.Rules.{Order, oldest, latest, Rules, rules, assume}
use Rattle.sequents.specs.Symbols.{Symbol}
use Rattle.sequents.specs.Sequents.{Environment, Hypothesis, Program, entries_of, entries, Sequent, Line, put_environment, put_program}
use Rattle.sequents.specs.Derivations.{Derivation, Derivable, lines, instance_of, InstanceDerivation}
use Rattle.sequents.specs.Lines.{Leads, Derives}
use Rattle.sequents.specs.Renamings.{Renaming, renamed, rename_sequent, rename_line}

-- The lines of a derivation derive its sequent, and lines that derive a sequent are those of a derivation of it.
pub record TreesAreLines (g : Sequent Symbol) : Type 0 where
  pub tree_lines : (d : Derivable g) → Derives (lines d) (g ∷ [])
  pub lines_tree : (ls : List (Line Symbol)) → Derives ls (g ∷ []) → (d : Derivable g) × (lines d ≡ ls)

-- A renaming carries a derivation to a derivation with the lines renamed, and lines that lead somewhere to lines that do.
pub record Renames (r : Renaming) : Type 0 where
  pub tree : (P : Program Symbol) (g : Goal) (e : Environment Symbol) (i : ℕ) (d : Derivation P g e i)
      → (d' : Derivation (put_program (renamed r) P) g (put_environment (renamed r) e) i) × (lines d' ≡ map (rename_line r) (lines d))
  pub leads : (ls : List (Line Symbol)) (gs rest : List (Sequent Symbol)) → Leads ls gs rest
      → Leads (map (rename_line r) ls) (map (rename_sequent r) gs) (map (rename_sequent r) rest)

-- The environments e and f agree on the names that stand free in the goal.
abbrev pub AgreeOn : Goal → Environment Symbol → Environment Symbol → Type 0
AgreeOn g e f = (v : ℕ) → free_g g v ≡ true → e v ≡ f v

abbrev pub Closed : Clause → Type 0
Closed c = (v : ℕ) → free_c c v ≡ true → ⊥

-- An instance of a goal is fixed by the terms for the goal's free variables, the clauses having none.
pub record Local (cs : Rules Clause) (g : Goal) : Type 0 where
  pub tree : (e f : Environment Symbol) → AgreeOn g e f → (d : Derivable (instance_of cs g e)) → (d' : Derivable (instance_of cs g f))
      × (lines d' ≡ lines d)

abbrev pub Trees : Type 0
Trees = (g : Sequent Symbol) → TreesAreLines g

abbrev pub Renamable : Type 0
Renamable = (r : Renaming) → Renames r

abbrev pub Locality : Type 0
Locality = (cs : Rules Clause) (g : Goal) → All Closed cs.clauses → Local cs g

-- Request W-207: clauses hs are assumed, one after the other. "The default trying order becomes the sheet's clauses in order, then the
-- assumptions, oldest first." The former order has the assumptions first, latest first.
unfoldable pub assume_all : List (Hypothesis Symbol) → Program Symbol → Program Symbol
assume_all [] P = P
assume_all (h ∷ hs) P = assume_all hs (assume h P)

pub record TriedInOrder (sheet hs : List (Hypothesis Symbol)) : Type 0 where
  pub default : entries (assume_all hs (rules oldest sheet)) ≡ entries_of sheet ++ entries_of hs
  pub former : entries (assume_all hs (rules latest sheet)) ≡ entries_of (reverse hs) ++ entries_of sheet

abbrev pub TryingOrder : Type 0
TryingOrder = (sheet hs : List (Hypothesis Symbol)) → TriedInOrder sheet hs

-- Places follow the order in force, but what is derivable does not depend on it.
abbrev pub AnyOrder : Type 0
AnyOrder = (o p : Order) (cs : List Clause) (g : Goal) (e : Environment Symbol) → InstanceDerivation (rules o cs) g e
    → InstanceDerivation (rules p cs) g e
