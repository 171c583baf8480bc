-- Matching is sound: what solves it after an act solved it before.
use Prim.Native.Nat.{ℕ, zero, suc, ◌≤◌, min}
use mathlib.Core.Path.{◌≡◌, refl, sym, ◌∙◌, ap, ap₂}
use mathlib.Core.Bool.{Bool, true, false, ◌&&◌, cond}
use mathlib.Core.List.{List, [], ◌∷◌}
use mathlib.Core.Option.{Option, none, some, map}
use native.Mathlib.Omega.{arith}
use lib.Dec.{eqb, leb}
use borrow.Author.Tests.{eqb-true}
use Rattle.terms.specs.Lists.{All, update}
use Rattle.terms.specs.Terms.{same_functor, Term, leaf, app, Terms, nil, cons, substitute, substitutes, level_by}
use Rattle.terms.proofs.Terms.{functor_same}
use Rattle.unification.specs.Store.{Leaf, var, con, Store, follow, lower, bind}
use Rattle.unification.specs.Matching.{Pair, Matching, pairs, check, fail, push_terms, push_pairs, comparing, after_node, visit}
use Rattle.unification.specs.Matching.{compare_terms, on_pair, on_node, match_step, match_steps}
use Rattle.unification.proofs.Valuation.{Domain, value, Solves, Equal}
use Rattle.unification.proofs.Follow.{follow_value}

-- Both tests are true.
and_true : (a b : Bool) → a && b ≡ true → (a ≡ true) × (b ≡ true)
and_true true b e = (refl, e)
and_true false b e = (e, cc)

module _ {B : Type 0} (D : Domain B) (σ : ℕ → Term B) where
  -- The valuation σ solves the store and the pairs, and E holds.
  abbrev pub SolvesWith : Store → Type 0 → List Pair → Type 0
  SolvesWith s E ps = Solves D σ s × E × All (Equal D σ) ps

  -- The valuation σ solves a matching: the store, what is to be bound, and the pairs that are left.
  unfoldable pub SolvesMatching : Matching → Type 0
  SolvesMatching (pairs s ps) = Solves D σ s × All (Equal D σ) ps
  SolvesMatching (check s y t n ns ps) = SolvesWith s (σ y ≡ substitute t (value D σ)) ps
  SolvesMatching fail = ⊥

  -- A lowered level is a stronger bound.
  pub lower_sound : (s : Store) (z k : ℕ) → Solves D σ (lower s z k) → Solves D σ s
  unfolding lower update
  lower_sound s z k h = record { equations = h.equations; levels = λ x b. go x (eqb x z) refl (h.levels x b) }
    where
      go : (x : ℕ) (c : Bool) → eqb x z ≡ c → level_by (σ x) D.level ≤ cond c (min (s.level z) k) (s.level x)
          → level_by (σ x) D.level ≤ s.level x
      go x true e l = rw (ap s.level (eqb-true x z e)) (omega arith)
      go x false e l = l

  -- After a node: the next one, or the binding.
  after_node_sound : (s : Store) (y : ℕ) (t : Term Leaf) (ns : List (Term Leaf)) (ps : List Pair) → SolvesMatching (after_node s y t ns ps)
      → SolvesWith s (σ y ≡ substitute t (value D σ)) ps
  unfolding after_node SolvesMatching bind
  after_node_sound s y t [] ps h = (record { equations = h.0.equations.1; levels = h.0.levels }, h.0.equations.0, h.1)
  after_node_sound s y t (n ∷ ns) ps h = h

  -- One node, u being it as looked through.
  visit_sound : (s : Store) (y : ℕ) (t u : Term Leaf) (ns : List (Term Leaf)) (ps : List Pair) → SolvesMatching (visit s y t u ns ps)
      → SolvesWith s (σ y ≡ substitute t (value D σ)) ps
  unfolding visit SolvesMatching
  visit_sound s y t (leaf (var z)) ns ps h = go (eqb z y) h
    where
      go : (c : Bool) → SolvesMatching (cond c fail (after_node (lower s z (s.level y)) y t ns ps))
          → SolvesWith s (σ y ≡ substitute t (value D σ)) ps
      go true h = absurd h
      go false h = let r = after_node_sound (lower s z (s.level y)) y t ns ps h in (lower_sound s z (s.level y) r.0, r.1, r.2)
  visit_sound s y t (leaf (con c j)) ns ps h = go (leb j (s.level y)) h
    where
      go : (c : Bool) → SolvesMatching (cond c (after_node s y t ns ps) fail) → SolvesWith s (σ y ≡ substitute t (value D σ)) ps
      go true h = after_node_sound s y t ns ps h
      go false h = absurd h
  visit_sound s y t (app f ts) ns ps h = after_node_sound s y t (push_terms ts ns) ps h

  -- The argument pairs of two lists of terms.
  pub comparing_sound : (s : Store) (ts us : Terms Leaf) (ps : List Pair) → SolvesMatching (comparing s (push_pairs ts us ps))
      → SolvesWith s (substitutes ts (value D σ) ≡ substitutes us (value D σ)) ps
  unfolding push_pairs comparing SolvesMatching substitute
  comparing_sound s nil nil ps h = (h.0, refl, h.1)
  comparing_sound s nil (cons u us) ps h = absurd h
  comparing_sound s (cons t ts) nil ps h = absurd h
  comparing_sound s (cons t ts) (cons u us) ps h = go (push_pairs ts us ps) h (comparing_sound s ts us ps)
    where
      go : (o : Option (List Pair)) → SolvesMatching (comparing s (map (λ qs. record { goal = t; clause = u } ∷ qs) o))
          → (SolvesMatching (comparing s o) → SolvesWith s (substitutes ts (value D σ) ≡ substitutes us (value D σ)) ps)
          → SolvesWith s (substitutes (cons t ts) (value D σ) ≡ substitutes (cons u us) (value D σ)) ps
      go none h ih = absurd h
      go (some qs) h ih = let r = ih (h.0, h.1.1) in (r.0, ap₂ cons h.1.0 r.1, r.2)

  -- One pair, t and u being its sides as looked through.
  compare_terms_sound : (s : Store) (t u : Term Leaf) (ps : List Pair) → SolvesMatching (compare_terms s t u ps)
      → SolvesWith s (substitute t (value D σ) ≡ substitute u (value D σ)) ps
  unfolding compare_terms SolvesMatching substitute value
  compare_terms_sound s (leaf (var x)) (leaf (var y)) ps h = go (eqb x y) refl h
    where
      go : (c : Bool) → eqb x y ≡ c → SolvesMatching (cond c (pairs s ps) (check s x (leaf (var y)) (leaf (var y)) [] ps))
          → SolvesWith s (σ x ≡ σ y) ps
      go true e h = (h.0, ap σ (eqb-true x y e), h.1)
      go false e h = h
  compare_terms_sound s (leaf (var x)) (leaf (con d j)) ps h = h
  compare_terms_sound s (leaf (var x)) (app g us) ps h = h
  compare_terms_sound s (leaf (con c k)) (leaf (var y)) ps h = (h.0, sym h.1, h.2)
  compare_terms_sound s (leaf (con c k)) (leaf (con d j)) ps h = go (eqb c d && eqb k j) refl h
    where
      go : (b : Bool) → eqb c d && eqb k j ≡ b → SolvesMatching (cond b (pairs s ps) fail)
          → SolvesWith s (leaf (D.constant c k) ≡ leaf (D.constant d j)) ps
      go true e h =
          let r = and_true (eqb c d) (eqb k j) e in (h.0, ap leaf (ap₂ D.constant (eqb-true c d r.0) (eqb-true k j r.1)), h.1)
      go false e h = absurd h
  compare_terms_sound s (leaf (con c k)) (app g us) ps h = absurd h
  compare_terms_sound s (app f ts) (leaf (var y)) ps h = (h.0, sym h.1, h.2)
  compare_terms_sound s (app f ts) (leaf (con d j)) ps h = absurd h
  compare_terms_sound s (app f ts) (app g us) ps h = go (same_functor f g) refl h
    where
      go : (b : Bool) → same_functor f g ≡ b → SolvesMatching (cond b (comparing s (push_pairs ts us ps)) fail)
          → SolvesWith s (app f (substitutes ts (value D σ)) ≡ app g (substitutes us (value D σ))) ps
      go true e h = let r = comparing_sound s ts us ps h in (r.0, ap₂ app (functor_same f g e) r.1, r.2)
      go false e h = absurd h

  -- A pair: a binding followed on one side, or both sides compared.
  on_pair_sound : (s : Store) (p : Pair) (ps : List Pair) (o q : Option (Term Leaf)) → follow s.bindings p.goal ≡ o
      → follow s.bindings p.clause ≡ q → SolvesMatching (on_pair s p ps o q) → SolvesMatching (pairs s (p ∷ ps))
  unfolding on_pair SolvesMatching
  on_pair_sound s p ps (some t) q e f h =
      (h.0, (sym (follow_value D σ s.bindings p.goal t h.0.equations e) ∙ h.1.0, h.1.1))
  on_pair_sound s p ps none (some u) e f h =
      (h.0, (h.1.0 ∙ follow_value D σ s.bindings p.clause u h.0.equations f, h.1.1))
  on_pair_sound s p ps none none e f h = let r = compare_terms_sound s p.goal p.clause ps h in (r.0, (r.1, r.2))

  -- A node: its binding followed, or the node looked at.
  on_node_sound : (s : Store) (y : ℕ) (t n : Term Leaf) (ns : List (Term Leaf)) (ps : List Pair) (o : Option (Term Leaf))
      → SolvesMatching (on_node s y t n ns ps o) → SolvesMatching (check s y t n ns ps)
  unfolding on_node SolvesMatching
  on_node_sound s y t n ns ps (some u) h = h
  on_node_sound s y t n ns ps none h = visit_sound s y t n ns ps h

  -- One act.
  pub match_step_sound : (m : Matching) → SolvesMatching (match_step m) → SolvesMatching m
  unfolding match_step
  match_step_sound (pairs s []) h = h
  match_step_sound (pairs s (p ∷ ps)) h =
      on_pair_sound s p ps (follow s.bindings p.goal) (follow s.bindings p.clause) refl refl h
  match_step_sound (check s y t n ns ps) h = on_node_sound s y t n ns ps (follow s.bindings n) h
  match_step_sound fail h = h

  -- Any number of acts.
  pub match_steps_sound : (n : ℕ) (m : Matching) → SolvesMatching (match_steps n m) → SolvesMatching m
  unfolding match_steps
  match_steps_sound zero m h = h
  match_steps_sound (suc n) m h = match_steps_sound n m (match_step_sound (match_steps n m) h)
