-- Request W-206: "each binding looked through takes one unit, wherever it happens in the walk". From any store, whatever is left to do.
use Rattle.std.specs.Prelude.{ℕ, zero, suc, ◌+◌, ◌≡◌, List, [], ◌∷◌}
use Rattle.std.proofs.Math.Option.{none, some}
use Rattle.terms.specs.Terms.{Term}
use Rattle.unification.specs.Store.{Leaf, Binding, Store, follow, look}
use Rattle.unification.specs.Matching.{Pair, pairs, check, visit, compare_terms, match_step, match_steps}
use Rattle.unification.specs.Promises.{Formed}

-- The term t comes to u, which has no binding left to follow, by looking through n bindings.
unfoldable pub LooksThrough : List Binding → Term Leaf → ℕ → Term Leaf → Type 0
LooksThrough bs t zero u = (follow bs t ≡ none) × (t ≡ u)
LooksThrough bs t (suc n) u = (v : Term Leaf) × (follow bs t ≡ some v) × LooksThrough bs v n u

-- One act that follows a binding: it replaces one bound variable by its value, in the goal's side first. The bindings and levels,
-- the other terms and what is left are as they were.
pub record FollowingActs (s : Store) (ps : List Pair) : Type 0 where
  pub goal : (p : Pair) (t : Term Leaf) → follow s.bindings p.goal ≡ some t
      → match_step (pairs s (p ∷ ps)) ≡ pairs s (record { goal = t; clause = p.clause } ∷ ps)
  pub clause : (p : Pair) (u : Term Leaf) → follow s.bindings p.goal ≡ none → follow s.bindings p.clause ≡ some u
      → match_step (pairs s (p ∷ ps)) ≡ pairs s (record { goal = p.goal; clause = u } ∷ ps)
  pub node : (y : ℕ) (t n v : Term Leaf) (ns : List (Term Leaf)) → follow s.bindings n ≡ some v
      → match_step (check s y t n ns ps) ≡ check s y t v ns ps

abbrev pub Followings : Type 0
Followings = (s : Store) (ps : List Pair) → FollowingActs s ps

-- One act for each binding, those of the goal's side and those of the clause's, then the act on what they come to; in a range
-- check likewise.
pub record LookingActs (s : Store) (ps : List Pair) : Type 0 where
  pub pair : (p : Pair) (i j : ℕ) (t u : Term Leaf) → LooksThrough s.bindings p.goal i t → LooksThrough s.bindings p.clause j u
      → match_steps (suc (i + j)) (pairs s (p ∷ ps)) ≡ compare_terms s t u ps
  pub node : (y : ℕ) (t n v : Term Leaf) (ns : List (Term Leaf)) (i : ℕ) → LooksThrough s.bindings n i v
      → match_steps (suc i) (check s y t n ns ps) ≡ visit s y t v ns ps
  -- The range check that a pair asks for begins at the value as looked through: no binding is left to follow at its root, and
  -- that value is what is bound.
  pub root : (t u : Term Leaf) (y : ℕ) (v n : Term Leaf) (ns : List (Term Leaf)) (qs : List Pair) (s' : Store)
      → follow s.bindings t ≡ none → follow s.bindings u ≡ none → compare_terms s t u ps ≡ check s' y v n ns qs
      → (s' ≡ s) × (n ≡ v) × (ns ≡ []) × (qs ≡ ps) × (follow s.bindings v ≡ none)

abbrev pub EveryBinding : Type 0
EveryBinding = (s : Store) (ps : List Pair) → LookingActs s ps

-- In a store as a search has it every term is looked through in some number of bindings, to what `look` gives.
abbrev pub AllLookedThrough : Type 0
AllLookedThrough = (s : Store) → Formed s → (t : Term Leaf) → (n : ℕ) × LooksThrough s.bindings t n (look s.bindings t)

-- No term is looked through in two ways, whatever the bindings.
abbrev pub LookedThroughOnce : Type 0
LookedThroughOnce = (bs : List Binding) (t : Term Leaf) (n m : ℕ) (u v : Term Leaf) → LooksThrough bs t n u → LooksThrough bs t m v
    → (n ≡ m) × (u ≡ v)
