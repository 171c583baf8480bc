-- A member of a program that is tried with an atom: its match is one of T3's, and where the search stands meanwhile.
use Prim.Native.Nat.{ℕ, suc}
use mathlib.Core.Path.{◌≡◌, refl}
use mathlib.Core.Bool.{Bool, true, false, cond}
use mathlib.Core.List.{List, [], ◌∷◌, ◌++◌, map}
use lib.Dec.{eqb}
use Rattle.terms.specs.Lists.{All}
use Rattle.terms.specs.Terms.{same_functor, substitutes, Leaves}
use Rattle.formulas.specs.Rules.{Rules}
use Rattle.formulas.specs.Formulas.{Goal, Clause}
use Rattle.sequents.specs.Sequents.{Entry, entries, Sequent}
use Rattle.unification.specs.Store.{Leaf, Store, follow, past, fresh, fresh_variables}
use Rattle.unification.specs.Matching.{Pair, Matching, pairs, fail, push_pairs, comparing, compare_terms, on_pair, match_step, match_steps}
use Rattle.unification.specs.Labelled.{Labelling}
use Rattle.unification.specs.Promises.{BelowPair, Labels, Matches}
use Rattle.unification.proofs.Promises.{unification}
use Rattle.unification.proofs.Stores.{past_le, fresh_formed}
use Rattle.unification.proofs.Invariant.{Good}
use Rattle.search.specs.Configurations.{Branch, Atom, Configuration, try}
use Rattle.search.specs.Steps.{settle, tried_store, tried_environment, tried_branch, try_member, try_from, step}
use Rattle.search.specs.Procedure.{paper_of}
use Rattle.search.specs.Promises.{tried_atoms, Trying, MatchUnderWay, atom_sequent}
use Rattle.search.proofs.Invariant.{TryBelow, terms_more, substitutes_below, prefix_below}
use Rattle.search.proofs.ProcedurePlaces.{StandsAt}
use Rattle.search.proofs.ProcedureReached.{Reached}

-- The two atoms have only variables that have been made.
atoms_below : (s : Store) (a : Atom) (m : Entry Leaf) (ms : List (Entry Leaf)) (gs : List (Sequent Leaf)) → Good (TryBelow a (m ∷ ms) gs) s
    → All (BelowPair (past m.member.prefix s.next)) (tried_atoms s a m)
unfolding Leaves
atoms_below s a m ms gs o =
    let vs = m.member.prefix in
    let n = past vs s.next in (
      (
        terms_more s.next n a.arguments (past_le vs s.next) o.extra.arguments,
        substitutes_below m.member.arguments (tried_environment s m) n
            (prefix_below vs s.next m.environment o.extra.members.0),
      ),
      tt,
    )

-- So T3 speaks of them.
pub trying : (s : Store) (a : Atom) (m : Entry Leaf) (ms : List (Entry Leaf)) (k : ℕ) (gs : List (Sequent Leaf))
    → Good (TryBelow a (m ∷ ms) gs) s → StandsAt 1 (entries a.program) k m → Trying s a m k
unfolding fresh
trying s a m ms k gs o p = record {
  formed = o.formed;
  within = p.0;
  stands = p.1;
  matches = λ L labels. unification (tried_store s a m) (tried_atoms s a m) L (fresh_formed m.member.prefix a.level s o.formed)
      (atoms_below s a m ms gs o) labels;
}

-- The first step of matching the two atoms: the predicates, then the arguments.
atoms_step : (s : Store) (a : Atom) (m : Entry Leaf) → match_steps 1 (pairs (tried_store s a m) (tried_atoms s a m))
    ≡ cond (eqb a.predicate m.member.predicate)
    (comparing (tried_store s a m) (push_pairs a.arguments (substitutes m.member.arguments (tried_environment s m)) [])) fail
unfolding match_steps match_step on_pair follow compare_terms same_functor
atoms_step s a m = refl

-- A try does that step, with the members left as the alternative.
pub try_step : (u : ℕ) (s : Store) (a : Atom) (m : Entry Leaf) (ms : List (Entry Leaf)) (k : ℕ) (b : Branch)
    → step u (try s a m ms k b)
    ≡ settle (match_steps 1 (pairs (tried_store s a m) (tried_atoms s a m))) (tried_branch s a m k b) ++ try_from s a ms (suc k) b
unfolding step try_member settle
try_step u s a m ms k b = rw (step, atoms_step s a m) (go (eqb a.predicate m.member.predicate))
  where
    x : Matching
    x = comparing (tried_store s a m) (push_pairs a.arguments (substitutes m.member.arguments (tried_environment s m)) [])

    go : (same : Bool) → cond same (settle x (tried_branch s a m k b)) [] ++ try_from s a ms (suc k) b
        ≡ settle (cond same x fail) (tried_branch s a m k b) ++ try_from s a ms (suc k) b
    go true = refl
    go false = refl

-- A match under way, the search having reached its atom before.
pub record Resolving (cs : Rules Clause) (g : Goal) (u : ℕ) (m : Matching) (b : Branch) : Type 0 where
  pub way : MatchUnderWay m b
  pub reached : Reached cs g u way.store (atom_sequent way.atom ∷ map paper_of way.before.goals) way.before.path
