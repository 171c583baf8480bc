-- Request W-204: numbers as terms. "Two of them match if they are equal, and one never matches an application"; a number is "of level
-- 0" and "counts as one symbol". One act compares a pair, and one act looks at a number in a range check, after one act for each binding
-- looked through (request W-206): from any store, whatever is left to do.
use Rattle.std.specs.Prelude.{ℕ, suc, ◌+◌, ◌≡◌, List, ◌∷◌}
use Rattle.terms.specs.Terms.{sheet_symbol, Term, leaf, app, Terms, number_term, size, level_by}
use Rattle.unification.specs.Store.{Leaf, con, Store}
use Rattle.unification.specs.Matching.{Pair, Matching, pairs, check, fail, after_node, match_steps}
use Rattle.unification.specs.Bindings.{LooksThrough}

-- The term t, looked through i bindings, is u.
abbrev pub Stands : Store → Term Leaf → ℕ → Term Leaf → Type 0
Stands s t i u = LooksThrough s.bindings t i u

-- The acts on a pair of terms that are looked through i and j bindings: one for each binding, then one.
abbrev pub compared : Store → Term Leaf → ℕ → Term Leaf → ℕ → List Pair → Matching
compared s t i u j ps = match_steps (suc (i + j)) (pairs s (record { goal = t; clause = u } ∷ ps))

-- A pair that fails, whichever of the two is the goal's.
abbrev pub Fails : Store → Term Leaf → ℕ → Term Leaf → ℕ → List Pair → Type 0
Fails s t i u j ps = (compared s t i u j ps ≡ fail) × (compared s u j t i ps ≡ fail)

-- The term t, looked through i bindings, is the number n.
pub record NumberActs (s : Store) (ps : List Pair) (t : Term Leaf) (i n : ℕ) : Type 0 where
  pub equal : (u : Term Leaf) (j : ℕ) → Stands s u j (number_term n) → compared s t i u j ps ≡ pairs s ps
  pub different : (u : Term Leaf) (j m : ℕ) → Stands s u j (number_term m) → (n ≡ m → ⊥) → compared s t i u j ps ≡ fail
  -- An application of a symbol, whatever its number, with arguments or without.
  pub application : (u : Term Leaf) (j f : ℕ) (us : Terms Leaf) → Stands s u j (app (sheet_symbol f) us) → Fails s t i u j ps
  -- A made constant, whatever its level.
  pub constant : (u : Term Leaf) (j c k : ℕ) → Stands s u j (leaf (con c k)) → Fails s t i u j ps
  -- A range check goes on after a number, whatever the level of the variable, and lowers nothing.
  pub range : (y : ℕ) (v : Term Leaf) (ns : List (Term Leaf)) → match_steps (suc i) (check s y v t ns ps) ≡ after_node s y v ns ps

abbrev pub NumbersApart : Type 0
NumbersApart = (s : Store) (ps : List Pair) (t : Term Leaf) (i n : ℕ) → Stands s t i (number_term n) → NumberActs s ps t i n

-- The level of a number is 0, whatever the levels of variables and made constants; its size is 1.
abbrev pub NumbersLow : Type 0
NumbersLow = (n : ℕ) → ((l : Leaf → ℕ) → level_by (number_term n) l ≡ 0) × (size {A = Leaf} (number_term n) ≡ 1)
