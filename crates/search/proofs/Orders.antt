-- Request W-207: no goal is proved under one order and no under the other.
use Prim.Native.Nat.{ℕ}
use mathlib.Core.Path.{◌≡◌}
use mathlib.Core.List.{List, [], ◌∷◌}
use Rattle.terms.specs.Lists.{All}
use Rattle.formulas.specs.Formulas.{Goal, Clause}
use Rattle.formulas.specs.Rules.{Order, Rules, rules}
use Rattle.sequents.specs.Sequents.{Line}
use Rattle.sequents.specs.Derivations.{instance_of, InstanceDerivation}
use Rattle.sequents.specs.Promises.{Closed}
use Rattle.sequents.proofs.Lines.{trees_are_lines}
use Rattle.sequents.proofs.Orders.{another_order}
use Rattle.unification.specs.Store.{Leaf, Store}
use Rattle.search.specs.Search.{proved, no_proof, ends, search}
use Rattle.search.specs.Answers.{final_environment, final_lines}
use Rattle.search.specs.Promises.{SheetNames}
use Rattle.search.proofs.Sound.{sound}
use Rattle.search.proofs.Complete.{complete}

-- The instance that a proved search tells has a derivation.
pub proved_derivable : (cs : Rules Clause) (g : Goal) (budget n : ℕ) (s : Store) (path : List (Line Leaf))
    → search budget cs g ≡ ends (proved s path) n → InstanceDerivation cs g (final_environment s)
proved_derivable cs g budget n s path e =
    let r = sound cs g budget n s path e in
    record {
      level0 = λ v h. r.level0 v;
      derivation = ((trees_are_lines (instance_of cs g (final_environment s))).lines_tree (final_lines s path) r.derives).0;
    }

-- It has one under the other order too, so that the search does not come to no there.
pub one_verdict_lem : (o p : Order) (cs : List Clause) (g : Goal) → All Closed cs → SheetNames g
    → (budget n : ℕ) (s : Store) (path : List (Line Leaf)) → search budget (rules o cs) g ≡ ends (proved s path) n
    → (other m : ℕ) → search other (rules p cs) g ≡ ends no_proof m → ⊥
one_verdict_lem o p cs g c names budget n s path e other m =
    complete (rules p cs) g (final_environment s) c names
    (another_order o p cs g (final_environment s) (proved_derivable (rules o cs) g budget n s path e)) other m
