-- Document 01, "The walk", third paragraph: matching, one act at a time. Two acts: "comparing a pair, looking at one node in a
-- range check". Request W-206 adds a third: "each binding looked through takes one unit, wherever it happens in the walk". A
-- "range check" is the occurs check with the level check.
use Rattle.std.specs.Prelude.{ℕ, zero, suc, Bool, true, false, ◌&&◌, cond, List, [], ◌∷◌, eqb, leb}
use Rattle.std.proofs.Math.Option.{Option, none, some, map}
use Rattle.terms.specs.Terms.{same_functor, Term, leaf, app, Terms, nil, cons}
use Rattle.unification.specs.Store.{Leaf, var, con, Store, follow, lower, bind}

-- A term of the goal's side and one of the clause's.
pub record Pair : Type 0 where
  pub goal : Term Leaf
  pub clause : Term Leaf

-- Matching under way: pairs left to compare; or, for a variable that is to be bound to a term, the node that is due, the
-- nodes left to look at, and the pairs left after that; or failed.
pub data Matching : Type 0 where
  pairs : Store → List Pair → Matching
  check : Store → ℕ → Term Leaf → Term Leaf → List (Term Leaf) → List Pair → Matching
  fail : Matching

-- The arguments stand in front, left to right.
unfoldable pub push_terms : Terms Leaf → List (Term Leaf) → List (Term Leaf)
push_terms nil ns = ns
push_terms (cons t ts) ns = t ∷ push_terms ts ns

unfoldable pub push_pairs : Terms Leaf → Terms Leaf → List Pair → Option (List Pair)
push_pairs nil nil ps = some ps
push_pairs nil (cons u us) ps = none
push_pairs (cons t ts) nil ps = none
push_pairs (cons t ts) (cons u us) ps = map (λ qs. record { goal = t; clause = u } ∷ qs) (push_pairs ts us ps)

-- Numbers of arguments that differ fail; a symbol has one arity, so that no sheet comes to this.
unfoldable pub comparing : Store → Option (List Pair) → Matching
comparing s none = fail
comparing s (some ps) = pairs s ps

-- After a node: the next one; or, where none is left, the binding.
unfoldable pub after_node : Store → ℕ → Term Leaf → List (Term Leaf) → List Pair → Matching
after_node s y t [] ps = pairs (bind s y t) ps
after_node s y t (n ∷ ns) ps = check s y t n ns ps

-- "A range check for a variable of level k walks the other term left to right, looking through bindings: it fails at that
-- variable or at a made constant above k, and lowers a variable above k to k." The node is given as looked through.
unfoldable pub visit : Store → ℕ → Term Leaf → Term Leaf → List (Term Leaf) → List Pair → Matching
visit s y t (leaf (var z)) ns ps = cond (eqb z y) fail (after_node (lower s z (s.level y)) y t ns ps)
visit s y t (leaf (con c j)) ns ps = cond (leb j (s.level y)) (after_node s y t ns ps) fail
visit s y t (app f ts) ns ps = after_node s y t (push_terms ts ns) ps

-- "The same variable or the same made constant twice: done. Goal side a variable: range check the other side, then bind. Else
-- clause side a variable: likewise. Two applications: the same symbol, then their arguments; else fail." Both sides are given
-- as looked through. Request W-204: a number stands where a symbol does, and `same_functor` never takes one for the other.
unfoldable pub compare_terms : Store → Term Leaf → Term Leaf → List Pair → Matching
compare_terms s (leaf (var x)) (leaf (var y)) ps = cond (eqb x y) (pairs s ps) (check s x (leaf (var y)) (leaf (var y)) [] ps)
compare_terms s (leaf (var x)) (leaf (con d j)) ps = check s x (leaf (con d j)) (leaf (con d j)) [] ps
compare_terms s (leaf (var x)) (app g us) ps = check s x (app g us) (app g us) [] ps
compare_terms s (leaf (con c k)) (leaf (var y)) ps = check s y (leaf (con c k)) (leaf (con c k)) [] ps
compare_terms s (leaf (con c k)) (leaf (con d j)) ps = cond (eqb c d && eqb k j) (pairs s ps) fail
compare_terms s (leaf (con c k)) (app g us) ps = fail
compare_terms s (app f ts) (leaf (var y)) ps = check s y (app f ts) (app f ts) [] ps
compare_terms s (app f ts) (leaf (con d j)) ps = fail
compare_terms s (app f ts) (app g us) ps = cond (same_functor f g) (comparing s (push_pairs ts us ps)) fail

-- The front pair, with what its sides are bound to: "goal side first, both looked through their bindings", one binding an act.
unfoldable pub on_pair : Store → Pair → List Pair → Option (Term Leaf) → Option (Term Leaf) → Matching
on_pair s p ps (some t) o = pairs s (record { goal = t; clause = p.clause } ∷ ps)
on_pair s p ps none (some u) = pairs s (record { goal = p.goal; clause = u } ∷ ps)
on_pair s p ps none none = compare_terms s p.goal p.clause ps

-- The node that is due, with what it is bound to. The first node of a range check is a side of a pair as looked through, so no
-- binding is followed there again.
unfoldable pub on_node : Store → ℕ → Term Leaf → Term Leaf → List (Term Leaf) → List Pair → Option (Term Leaf) → Matching
on_node s y t n ns ps (some u) = check s y t u ns ps
on_node s y t n ns ps none = visit s y t n ns ps

-- One act: "argument pairs are compared, left to right, depth first"; where a binding is to be looked through, following it is
-- the act.
unfoldable pub match_step : Matching → Matching
match_step (pairs s []) = pairs s []
match_step (pairs s (p ∷ ps)) = on_pair s p ps (follow s.bindings p.goal) (follow s.bindings p.clause)
match_step (check s y t n ns ps) = on_node s y t n ns ps (follow s.bindings n)
match_step fail = fail

-- Does n acts of matching.
unfoldable pub match_steps : ℕ → Matching → Matching
match_steps zero m = m
match_steps (suc n) m = match_step (match_steps n m)

-- Nothing is left to do.
unfoldable pub Ended : Matching → Type 0
Ended (pairs s []) = Unit {0}
Ended (pairs s (p ∷ ps)) = ⊥
Ended (check s y t n ns ps) = ⊥
Ended fail = Unit {0}
