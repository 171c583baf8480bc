-- What every matching under way satisfies.
use Prim.Native.Nat.{ℕ, zero, suc, ◌<◌}
use mathlib.Core.Path.{◌≡◌, refl, sym, subst}
use mathlib.Core.Bool.{Bool, true, false, ◌&&◌, cond}
use mathlib.Core.List.{List, [], ◌∷◌}
use mathlib.Core.Option.{Option, none, some, map}
use mathlib.Core.Logic.{◌⊎◌, inl, inr}
use native.Mathlib.Omega.{arith}
use lib.Dec.{eqb, leb}
use borrow.Author.Tests.{eqb-false, leb-true}
use Rattle.terms.specs.Lists.{All}
use Rattle.terms.specs.Terms.{same_functor, Term, leaf, app, Terms, nil, cons, substitute, substitutes, Leaves, LeavesAll, Appears}
use Rattle.terms.specs.Terms.{AppearsIn}
use Rattle.terms.proofs.Terms.{leaf_not_app}
use Rattle.unification.specs.Store.{Leaf, var, con, Store, follow, look, lower, bind, at, apply, solution}
use Rattle.unification.specs.Matching.{Pair, Matching, pairs, check, fail, push_terms, push_pairs, comparing, after_node, visit}
use Rattle.unification.specs.Matching.{compare_terms, on_pair, on_node, match_step, match_steps}
use Rattle.unification.specs.Promises.{Below, BelowPair, Unbound, Formed, reading}
use Rattle.unification.proofs.Substitution.{con_not_var}
use Rattle.unification.proofs.Follow.{follow_below, apply_follow, follow_none}
use Rattle.unification.proofs.Stores.{Allowed, solution_unbound, lower_same, lower_other, lower_le, lower_formed, bind_formed}

-- The leaf appears in one of the terms, θ put to use.
abbrev pub AppearsOne : (ℕ → Term Leaf) → Leaf → List (Term Leaf) → Type 0
AppearsOne θ a [] = ⊥
AppearsOne θ a (n ∷ ns) = Appears (apply n θ) a ⊎ AppearsOne θ a ns

-- Arguments below n are nodes below n.
push_terms_below : (ts : Terms Leaf) (ns : List (Term Leaf)) (n : ℕ) → LeavesAll ts (Below n) → All (λ u. Leaves u (Below n)) ns
    → All (λ u. Leaves u (Below n)) (push_terms ts ns)
unfolding push_terms Leaves
push_terms_below nil ns n b h = h
push_terms_below (cons t ts) ns n b h = (b.0, push_terms_below ts ns n b.1 h)

-- What appears in the arguments or in the nodes left appears in the new nodes.
push_terms_appears : (θ : ℕ → Term Leaf) (a : Leaf) (ts : Terms Leaf) (ns : List (Term Leaf)) → AppearsIn (substitutes ts (at θ)) a
    ⊎ AppearsOne θ a ns → AppearsOne θ a (push_terms ts ns)
unfolding push_terms substitute Appears
push_terms_appears θ a nil ns (inl h) = absurd h
push_terms_appears θ a nil ns (inr h) = h
push_terms_appears θ a (cons t ts) ns (inl (inl h)) = inl h
push_terms_appears θ a (cons t ts) ns (inl (inr h)) = inr (push_terms_appears θ a ts ns (inl h))
push_terms_appears θ a (cons t ts) ns (inr h) = inr (push_terms_appears θ a ts ns (inr h))

-- R: whatever else is known of the number of variables, which no act changes.
module _ (R : ℕ → Type 0) where
  -- A store between two acts.
  pub record Good (s : Store) : Type 0 where
    pub formed : Formed s
    pub extra : R s.next

  -- A range check for y of t: y is unbound, t is looked through and not y. What appears in the final value of t has passed, or
  -- appears in that of a node that is left.
  pub record Checking (s : Store) (y : ℕ) (t : Term Leaf) (ns : List (Term Leaf)) : Type 0 where
    pub good : Good s
    pub unbound : Unbound s.bindings y
    pub looked : look s.bindings t ≡ t
    pub other : t ≡ leaf (var y) → ⊥
    pub low : y < s.next
    pub below : Leaves t (Below s.next)
    pub nodes : All (λ n. Leaves n (Below s.next)) ns
    pub passed : (a : Leaf) → Appears (reading s t) a → Allowed s y a ⊎ AppearsOne (solution s) a ns

  -- A matching under way.
  unfoldable pub Running : Matching → Type 0
  Running (pairs s ps) = Good s × All (BelowPair s.next) ps
  Running (check s y t n ns ps) = Checking s y t (n ∷ ns) × All (BelowPair s.next) ps
  Running fail = Unit {0}

  -- After a node; where none is left, everything has passed.
  after_node_running : (s : Store) (y : ℕ) (t : Term Leaf) (ns : List (Term Leaf)) (ps : List Pair) → Checking s y t ns
      → All (BelowPair s.next) ps → Running (after_node s y t ns ps)
  unfolding after_node Running bind
  after_node_running s y t [] ps c b = (
    record {
      formed = bind_formed s y t c.unbound c.looked c.low c.below (λ a h. all a (c.passed a h)) c.good.formed;
      extra = c.good.extra;
    },
    b,
  )
    where
      all : (a : Leaf) → Allowed s y a ⊎ ⊥ → Allowed s y a
      all a (inl h) = h
      all a (inr h) = absurd h
  after_node_running s y t (n ∷ ns) ps c b = (c, b)

  -- The node n has been looked at, and other nodes are left.
  go_on_lem : (s : Store) (y : ℕ) (t n : Term Leaf) (ns ms : List (Term Leaf)) → Checking s y t (n ∷ ns)
      → All (λ u. Leaves u (Below s.next)) ms
      → ((a : Leaf) → Appears (reading s n) a ⊎ AppearsOne (solution s) a ns → Allowed s y a ⊎ AppearsOne (solution s) a ms)
      → Checking s y t ms
  go_on_lem s y t n ns ms c b k = record {
    good = c.good;
    unbound = c.unbound;
    looked = c.looked;
    other = c.other;
    low = c.low;
    below = c.below;
    nodes = b;
    passed = λ a h. passed a (c.passed a h);
  }
    where
      passed : (a : Leaf) → Allowed s y a ⊎ AppearsOne (solution s) a (n ∷ ns) → Allowed s y a ⊎ AppearsOne (solution s) a ms
      passed a (inl h) = inl h
      passed a (inr h) = k a h

  -- What has passed for y still does when another variable is lowered.
  lower_allowed : (s : Store) (z y : ℕ) (a : Leaf) → (y ≡ z → ⊥) → Allowed s y a → Allowed (lower s z (s.level y)) y a
  unfolding Allowed
  lower_allowed s z y (var w) d h =
      (h.0, (let p = lower_le s z (s.level y) w in let q = lower_other s z (s.level y) y d in let r = h.1 in omega arith))
  lower_allowed s z y (con c k) d h = rw (lower_other s z (s.level y) y d) h

  -- A variable that is not y, lowered to its level.
  lower_checking : (s : Store) (y : ℕ) (t : Term Leaf) (z : ℕ) (ns : List (Term Leaf)) → (z ≡ y → ⊥) → Unbound s.bindings z
      → Checking s y t (leaf (var z) ∷ ns)
      → Checking (lower s z (s.level y)) y t ns
  unfolding lower solution Allowed substitute at
  lower_checking s y t z ns d u c = record {
    good = record { formed = lower_formed s z (s.level y) u c.good.formed; extra = c.good.extra };
    unbound = c.unbound;
    looked = c.looked;
    other = c.other;
    low = c.low;
    below = c.below;
    nodes = c.nodes.1;
    passed = λ a h. passed a (c.passed a h);
  }
    where
      y_not_z : y ≡ z → ⊥
      y_not_z p = d (sym p)

      here : Allowed (lower s z (s.level y)) y (var z)
      here = (d, (let p = lower_same s z (s.level y) in let q = lower_other s z (s.level y) y y_not_z in omega arith))

      passed : (a : Leaf) → Allowed s y a ⊎ Appears (reading s (leaf (var z))) a ⊎ AppearsOne (solution s) a ns
          → Allowed (lower s z (s.level y)) y a ⊎ AppearsOne (solution (lower s z (s.level y))) a ns
      passed a (inl h) = inl (lower_allowed s z y a y_not_z h)
      passed a (inr (inl h)) = inl (subst (Allowed (lower s z (s.level y)) y) (sym (solution_unbound s z a c.good.formed u h)) here)
      passed a (inr (inr h)) = inr h

  -- The node that is due, as looked through.
  visit_running : (s : Store) (y : ℕ) (t u : Term Leaf) (ns : List (Term Leaf)) (ps : List Pair) → look s.bindings u ≡ u
      → Checking s y t (u ∷ ns) → All (BelowPair s.next) ps
      → Running (visit s y t u ns ps)
  unfolding visit Running Leaves Allowed Appears substitute at lower
  visit_running s y t (leaf (var z)) ns ps e c b = go (eqb z y) refl
    where
      go : (q : Bool) → eqb z y ≡ q → Running (cond q fail (after_node (lower s z (s.level y)) y t ns ps))
      go true q = tt
      go false q = after_node_running (lower s z (s.level y)) y t ns ps (lower_checking s y t z ns (eqb-false z y q) e c) b
  visit_running s y t (leaf (con d j)) ns ps e c b = go (leb j (s.level y)) refl
    where
      go : (q : Bool) → leb j (s.level y) ≡ q → Running (cond q (after_node s y t ns ps) fail)
      go true q = after_node_running s y t ns ps (go_on_lem s y t (leaf (con d j)) ns ns c c.nodes.1 passed) b
        where
          passed : (a : Leaf) → Appears (reading s (leaf (con d j))) a ⊎ AppearsOne (solution s) a ns → Allowed s y a
              ⊎ AppearsOne (solution s) a ns
          passed a (inl h) = inl (subst (Allowed s y) (sym h) (leb-true j (s.level y) q))
          passed a (inr h) = inr h
      go false q = tt
  visit_running s y t (app f ts) ns ps e c b =
      after_node_running s y t (push_terms ts ns) ps
      (go_on_lem s y t (app f ts) ns (push_terms ts ns) c (push_terms_below ts ns s.next c.nodes.0 c.nodes.1)
      (λ a h. inr (push_terms_appears (solution s) a ts ns h))) b

  -- The argument pairs of two lists of terms.
  pub comparing_running : (s : Store) (ts us : Terms Leaf) (ps : List Pair) → Good s → LeavesAll ts (Below s.next)
      → LeavesAll us (Below s.next) → All (BelowPair s.next) ps
      → Running (comparing s (push_pairs ts us ps))
  unfolding push_pairs comparing Running Leaves
  comparing_running s nil nil ps g b c h = (g, h)
  comparing_running s nil (cons u us) ps g b c h = tt
  comparing_running s (cons t ts) nil ps g b c h = tt
  comparing_running s (cons t ts) (cons u us) ps g b c h = go (push_pairs ts us ps) (comparing_running s ts us ps g b.1 c.1 h)
    where
      go : (q : Option (List Pair)) → Running (comparing s q)
          → Running (comparing s (map (λ qs. record { goal = t; clause = u } ∷ qs) q))
      go none i = tt
      go (some qs) i = (g, ((b.0, c.0), i.1))

  -- A range check begins with the whole term.
  check_running : (s : Store) (y : ℕ) (t : Term Leaf) (ps : List Pair) → Good s → Unbound s.bindings y → look s.bindings t ≡ t
      → (t ≡ leaf (var y) → ⊥)
      → y < s.next → Leaves t (Below s.next) → All (BelowPair s.next) ps → Running (check s y t t [] ps)
  unfolding Running
  check_running s y t ps g u l d h b bp =
      (record { good = g; unbound = u; looked = l; other = d; low = h; below = b; nodes = (b, tt); passed = λ a i. inr (inl i) }, bp)

  -- A test that fails the matching.
  if_running : (b : Bool) (m : Matching) → Running m → Running (cond b m fail)
  unfolding Running
  if_running true m h = h
  if_running false m h = tt

  -- One pair, t and u being its sides as looked through.
  compare_terms_running : (s : Store) (t u : Term Leaf) (ps : List Pair) → Good s → look s.bindings t ≡ t → look s.bindings u ≡ u
      → Leaves t (Below s.next) → Leaves u (Below s.next) → All (BelowPair s.next) ps → Running (compare_terms s t u ps)
  unfolding compare_terms Running Leaves Below
  compare_terms_running s (leaf (var x)) (leaf (var y)) ps g et eu bt bu b = go (eqb x y) refl
    where
      go : (c : Bool) → eqb x y ≡ c → Running (cond c (pairs s ps) (check s x (leaf (var y)) (leaf (var y)) [] ps))
      go true e = (g, b)
      go false e = check_running s x (leaf (var y)) ps g et eu (λ q. eqb-false x y e (cc)) bt bu b
  compare_terms_running s (leaf (var x)) (leaf (con d j)) ps g et eu bt bu b =
      check_running s x (leaf (con d j)) ps g et eu (λ q. con_not_var d j x (cc)) bt bu b
  compare_terms_running s (leaf (var x)) (app h us) ps g et eu bt bu b =
      check_running s x (app h us) ps g et eu (λ q. leaf_not_app (var x) h us (sym q)) bt bu b
  compare_terms_running s (leaf (con c k)) (leaf (var y)) ps g et eu bt bu b =
      check_running s y (leaf (con c k)) ps g eu et (λ q. con_not_var c k y (cc)) bu bt b
  compare_terms_running s (leaf (con c k)) (leaf (con d j)) ps g et eu bt bu b = if_running (eqb c d && eqb k j) (pairs s ps) (g, b)
  compare_terms_running s (leaf (con c k)) (app h us) ps g et eu bt bu b = tt
  compare_terms_running s (app f ts) (leaf (var y)) ps g et eu bt bu b =
      check_running s y (app f ts) ps g eu et (λ q. leaf_not_app (var y) f ts (sym q)) bu bt b
  compare_terms_running s (app f ts) (leaf (con d j)) ps g et eu bt bu b = tt
  compare_terms_running s (app f ts) (app h us) ps g et eu bt bu b =
      if_running (same_functor f h) (comparing s (push_pairs ts us ps)) (comparing_running s ts us ps g bt bu b)

  -- The binding of the node that is due, followed.
  follow_checking : (s : Store) (y : ℕ) (t n u : Term Leaf) (ns : List (Term Leaf)) → follow s.bindings n ≡ some u
      → Checking s y t (n ∷ ns) → Checking s y t (u ∷ ns)
  unfolding solution
  follow_checking s y t n u ns e c =
      go_on_lem s y t n ns (u ∷ ns) c (follow_below s.bindings n u s.next c.good.formed.below e, c.nodes.1) passed
    where
      passed : (a : Leaf) → Appears (reading s n) a ⊎ AppearsOne (solution s) a ns → Allowed s y a
          ⊎ Appears (reading s u) a ⊎ AppearsOne (solution s) a ns
      passed a (inl h) = inr (inl (subst (λ v. Appears v a) (sym (apply_follow s.bindings n u c.good.formed.bound e)) h))
      passed a (inr h) = inr (inr h)

  -- A pair: a binding followed on one side, or both sides compared.
  on_pair_running : (s : Store) (p : Pair) (ps : List Pair) (o q : Option (Term Leaf)) → follow s.bindings p.goal ≡ o
      → follow s.bindings p.clause ≡ q → Running (pairs s (p ∷ ps)) → Running (on_pair s p ps o q)
  unfolding on_pair Running
  on_pair_running s p ps (some t) q e f r =
      (r.0, ((follow_below s.bindings p.goal t s.next r.0.formed.below e, r.1.0.1), r.1.1))
  on_pair_running s p ps none (some u) e f r =
      (r.0, ((r.1.0.0, follow_below s.bindings p.clause u s.next r.0.formed.below f), r.1.1))
  on_pair_running s p ps none none e f r =
      compare_terms_running s p.goal p.clause ps r.0 (follow_none s.bindings p.goal e)
      (follow_none s.bindings p.clause f) r.1.0.0 r.1.0.1 r.1.1

  -- A node: its binding followed, or the node looked at.
  on_node_running : (s : Store) (y : ℕ) (t n : Term Leaf) (ns : List (Term Leaf)) (ps : List Pair) (o : Option (Term Leaf))
      → follow s.bindings n ≡ o → Running (check s y t n ns ps) → Running (on_node s y t n ns ps o)
  unfolding on_node Running
  on_node_running s y t n ns ps (some u) e r = (follow_checking s y t n u ns e r.0, r.1)
  on_node_running s y t n ns ps none e r = visit_running s y t n ns ps (follow_none s.bindings n e) r.0 r.1

  -- One act.
  pub match_step_running : (m : Matching) → Running m → Running (match_step m)
  unfolding match_step Running
  match_step_running (pairs s []) r = r
  match_step_running (pairs s (p ∷ ps)) r =
      on_pair_running s p ps (follow s.bindings p.goal) (follow s.bindings p.clause) refl refl r
  match_step_running (check s y t n ns ps) r = on_node_running s y t n ns ps (follow s.bindings n) refl r
  match_step_running fail r = tt

  -- Any number of acts.
  pub match_steps_running : (n : ℕ) (m : Matching) → Running m → Running (match_steps n m)
  unfolding match_steps
  match_steps_running zero m r = r
  match_steps_running (suc n) m r = match_step_running (match_steps n m) (match_steps_running n m r)
