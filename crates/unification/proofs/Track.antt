-- Where the levels come from: a level that matching has lowered is that of a variable in whose final value the variable appears.
use Prim.Native.Nat.{ℕ, zero, suc, ◌≤◌}
use mathlib.Core.Path.{◌≡◌, refl, sym, ◌∙◌, subst}
use mathlib.Core.Bool.{Bool, true, false, cond, ◌&&◌}
use mathlib.Core.List.{List, [], ◌∷◌}
use mathlib.Core.Option.{Option, none, some}
use mathlib.Core.Logic.{◌⊎◌, inl, inr}
use native.Mathlib.Omega.{arith}
use lib.Dec.{eqb, leb}
use borrow.Author.Tests.{eqb-true, eqb-false, leb-true, leb-false}
use Rattle.terms.specs.Lists.{All}
use Rattle.terms.specs.Terms.{same_functor, Term, leaf, app, Terms, nil, cons, substitute, substitutes, Appears, AppearsIn}
use Rattle.unification.specs.Store.{Leaf, var, con, Binding, Store, follow, look, lower, bind, at, solution}
use Rattle.unification.specs.Matching.{Pair, Matching, pairs, check, fail, push_terms, push_pairs, comparing, after_node, visit}
use Rattle.unification.specs.Matching.{compare_terms, on_pair, on_node, match_step, match_steps}
use Rattle.unification.specs.Promises.{Unbound, WellBound, Formed, reading}
use Rattle.unification.proofs.Solution.{final, bound_to_unbound, unbound_before, stays_appears, enters_appears}
use Rattle.unification.proofs.Follow.{apply_follow, follow_none}
use Rattle.unification.proofs.Stores.{lower_same, lower_other, lower_le, lower_formed}
use Rattle.unification.proofs.Invariant.{Running, match_step_running, match_steps_running}

-- The store s comes later in the matching than s₀: its unbound variables were unbound, and levels were no lower.
pub record Later (s₀ s : Store) : Type 0 where
  pub unbound : (x : ℕ) → Unbound s.bindings x → Unbound s₀.bindings x
  pub levels : (x : ℕ) → s.level x ≤ s₀.level x

-- The level of x is its own at the start, or that of a variable, unbound then, in whose final value x appears.
abbrev pub Origin : Store → Store → ℕ → Type 0
Origin s₀ s x =
    (s.level x ≡ s₀.level x) ⊎ ((y : ℕ) × Unbound s₀.bindings y × Appears (solution s y) (var x) × (s.level x ≡ s₀.level y))

-- In a range check for y of t, or it is that of y, x appearing in the final value of t.
abbrev pub Seen : Store → Store → ℕ → Term Leaf → ℕ → Type 0
Seen s₀ s y t x = Origin s₀ s x ⊎ (Appears (reading s t) (var x) × (s.level x ≡ s.level y))

-- The variables in the final value of n appear in that of t.
abbrev pub Within : Store → Term Leaf → Term Leaf → Type 0
Within s t n = (z : ℕ) → Appears (reading s n) (var z) → Appears (reading s t) (var z)

-- A range check for y of t, with the nodes left.
pub record Tracing (s₀ s : Store) (y : ℕ) (t : Term Leaf) (ns : List (Term Leaf)) : Type 0 where
  pub later : Later s₀ s
  pub own : Origin s₀ s y
  pub seen : (x : ℕ) → Unbound s.bindings x → Seen s₀ s y t x
  pub within : All (Within s t) ns

-- A matching under way: whence the levels of its unbound variables come.
unfoldable pub Tracked : Store → Matching → Type 0
Tracked s₀ (pairs s ps) = Later s₀ s × ((x : ℕ) → Unbound s.bindings x → Origin s₀ s x)
Tracked s₀ (check s y t n ns ps) = Tracing s₀ s y t (n ∷ ns)
Tracked s₀ fail = Unit {0}

-- Levels lowered

-- The store stays a later one.
lower_later : (s₀ s : Store) (z k : ℕ) → Later s₀ s → Later s₀ (lower s z k)
unfolding lower
lower_later s₀ s z k l = record { unbound = l.unbound; levels = λ x. (let a = lower_le s z k x in let b = l.levels x in omega arith) }

-- The lowered level is the old one or the bound.
lower_either : (s : Store) (z k : ℕ) → ((lower s z k).level z ≡ s.level z) ⊎ ((lower s z k).level z ≡ k)
lower_either s z k = go (leb (s.level z) k) refl
  where
    go : (b : Bool) → leb (s.level z) k ≡ b → ((lower s z k).level z ≡ s.level z) ⊎ ((lower s z k).level z ≡ k)
    go true e = inl (let q = leb-true (s.level z) k e in let p = lower_same s z k in omega arith)
    go false e = inr (let q = leb-false (s.level z) k e in let p = lower_same s z k in omega arith)

-- A level that is as before comes whence it came.
same_origin : (s₀ s : Store) (z k x : ℕ) → (lower s z k).level x ≡ s.level x → Origin s₀ s x → Origin s₀ (lower s z k) x
unfolding lower solution
same_origin s₀ s z k x e (inl q) = inl (e ∙ q)
same_origin s₀ s z k x e (inr q) = inr (q.0, q.1, q.2, e ∙ q.3)

-- The same in a range check.
same_seen : (s₀ s : Store) (z k y : ℕ) (t : Term Leaf) (x : ℕ) → (lower s z k).level x ≡ s.level x → (lower s z k).level y ≡ s.level y
    → Seen s₀ s y t x → Seen s₀ (lower s z k) y t x
unfolding lower solution
same_seen s₀ s z k y t x e f (inl q) = inl (same_origin s₀ s z k x e q)
same_seen s₀ s z k y t x e f (inr q) = inr (q.0, e ∙ q.1 ∙ sym f)

-- A variable z that is not y, which appears in the final value of t, lowered to the level of y.
lower_tracing : (s₀ s : Store) (y : ℕ) (t : Term Leaf) (z : ℕ) (ns : List (Term Leaf)) → (z ≡ y → ⊥) → Unbound s.bindings z → Formed s
    → Tracing s₀ s y t (leaf (var z) ∷ ns)
    → Tracing s₀ (lower s z (s.level y)) y t ns
unfolding lower solution substitute at Appears
lower_tracing s₀ s y t z ns d u f c = record {
  later = lower_later s₀ s z k c.later;
  own = same_origin s₀ s z k y same c.own;
  seen = λ x v. seen x v (eqb x z) refl;
  within = c.within.1;
}
  where
    k : ℕ
    k = s.level y

    same : (lower s z k).level y ≡ s.level y
    same = lower_other s z k y (λ p. d (sym p))

    appears : Appears (reading s t) (var z)
    appears = c.within.0 z (subst (λ (v : Term Leaf). Appears v (var z)) (sym (bound_to_unbound s.bindings z f.bound u)) refl)

    here : ((lower s z k).level z ≡ s.level z) ⊎ ((lower s z k).level z ≡ k) → Seen s₀ (lower s z k) y t z
    here (inl q) = same_seen s₀ s z k y t z q same (c.seen z u)
    here (inr q) = inr (appears, q ∙ sym same)

    seen : (x : ℕ) → Unbound s.bindings x → (b : Bool) → eqb x z ≡ b → Seen s₀ (lower s z k) y t x
    seen x v true q = subst (Seen s₀ (lower s z k) y t) (sym (eqb-true x z q)) (here (lower_either s z k))
    seen x v false q = same_seen s₀ s z k y t x (lower_other s z k x (eqb-false x z q)) same (c.seen x v)

-- Bindings

-- After the binding every level comes from the start.
bind_tracked : (s₀ s : Store) (y : ℕ) (t : Term Leaf) (ps : List Pair) → Formed s → Formed (bind s y t) → Tracing s₀ s y t []
    → Tracked s₀ (pairs (bind s y t) ps)
unfolding Tracked bind WellBound solution Appears
bind_tracked s₀ s y t ps f g c = (
  record { unbound = λ x u. c.later.unbound x (unbound_before b bs x g.bound u).0; levels = c.later.levels },
  λ x u. (let r = unbound_before b bs x g.bound u in origin x r.1 (c.seen x r.0)),
)
  where
    bs : List Binding
    bs = s.bindings

    b : Binding
    b = record { name = y; value = t }

    itself : Appears (final bs y) (var y)
    itself = subst (λ (v : Term Leaf). Appears v (var y)) (sym (bound_to_unbound bs y f.bound g.bound.0)) refl

    -- Where x appears in the final value of t: whence the level of y comes, there comes that of x.
    through : (x : ℕ) → Appears (reading s t) (var x) → s.level x ≡ s.level y → Origin s₀ s y → Origin s₀ (bind s y t) x
    through x v e (inl q) = inr (y, c.later.unbound y g.bound.0, enters_appears b bs y (var x) (itself, v), e ∙ q)
    through x v e (inr q) = inr (q.0, q.1, enters_appears b bs q.0 (var x) (q.2, v), e ∙ q.3)

    origin : (x : ℕ) → (x ≡ y → ⊥) → Seen s₀ s y t x → Origin s₀ (bind s y t) x
    origin x d (inl (inl e)) = inl e
    origin x d (inl (inr q)) = inr (q.0, q.1, stays_appears b bs q.0 x q.2 d, q.3)
    origin x d (inr q) = through x q.0 q.1 c.own

-- One act

module _ (R : ℕ → Type 0) (s₀ : Store) where
  -- After a node: the next one, or the binding.
  after_node_tracked : (s : Store) (y : ℕ) (t : Term Leaf) (ns : List (Term Leaf)) (ps : List Pair) → Formed s
      → Running R (after_node s y t ns ps) → Tracing s₀ s y t ns → Tracked s₀ (after_node s y t ns ps)
  unfolding after_node Running Tracked
  after_node_tracked s y t [] ps f r c = bind_tracked s₀ s y t ps f r.0.formed c
  after_node_tracked s y t (n ∷ ns) ps f r c = c

  -- The arguments of a node within t are within t.
  push_terms_within : (s : Store) (t : Term Leaf) (ts : Terms Leaf) (ns : List (Term Leaf))
      → ((z : ℕ) → AppearsIn (substitutes ts (at (solution s))) (var z) → Appears (reading s t) (var z))
      → All (Within s t) ns → All (Within s t) (push_terms ts ns)
  unfolding push_terms substitute Appears
  push_terms_within s t nil ns h w = w
  push_terms_within s t (cons u us) ns h w = ((λ z v. h z (inl v)), push_terms_within s t us ns (λ z v. h z (inr v)) w)

  -- Looking at a node u, given as looked through, keeps it known where the levels come from.
  visit_tracked : (s : Store) (y : ℕ) (t u : Term Leaf) (ns : List (Term Leaf)) (ps : List Pair) → Formed s → look s.bindings u ≡ u
      → Running R (visit s y t u ns ps)
      → Tracing s₀ s y t (u ∷ ns) → Tracked s₀ (visit s y t u ns ps)
  unfolding visit Tracked substitute Appears
  visit_tracked s y t (leaf (var z)) ns ps f e r c = go (eqb z y) refl r
    where
      k : ℕ
      k = s.level y

      go : (b : Bool) → eqb z y ≡ b → Running R (cond b fail (after_node (lower s z k) y t ns ps))
          → Tracked s₀ (cond b fail (after_node (lower s z k) y t ns ps))
      go true q r = tt
      go false q r =
          after_node_tracked (lower s z k) y t ns ps (lower_formed s z k e f) r (lower_tracing s₀ s y t z ns (eqb-false z y q) e f c)
  visit_tracked s y t (leaf (con d j)) ns ps f e r c = go (leb j (s.level y)) r
    where
      go : (b : Bool) → Running R (cond b (after_node s y t ns ps) fail) → Tracked s₀ (cond b (after_node s y t ns ps) fail)
      go true r = after_node_tracked s y t ns ps f r (record { later = c.later; own = c.own; seen = c.seen; within = c.within.1 })
      go false r = tt
  visit_tracked s y t (app h ts) ns ps f e r c =
      after_node_tracked s y t (push_terms ts ns) ps f r
      (record { later = c.later; own = c.own; seen = c.seen; within = push_terms_within s t ts ns c.within.0 c.within.1 })

  -- A range check begins with the whole term.
  check_tracked : (s : Store) (y : ℕ) (t : Term Leaf) (ps : List Pair) → Unbound s.bindings y → Tracked s₀ (pairs s ps)
      → Tracked s₀ (check s y t t [] ps)
  unfolding Tracked
  check_tracked s y t ps u h = record { later = h.0; own = h.1 y u; seen = λ x v. inl (h.1 x v); within = ((λ z v. v), tt) }

  -- The argument pairs of two lists of terms.
  comparing_tracked : (s : Store) (o : Option (List Pair)) (ps : List Pair) → Tracked s₀ (pairs s ps) → Tracked s₀ (comparing s o)
  unfolding comparing Tracked
  comparing_tracked s none ps h = tt
  comparing_tracked s (some qs) ps h = h

  -- A test that fails the matching.
  if_tracked : (b : Bool) (m : Matching) → Tracked s₀ m → Tracked s₀ (cond b m fail)
  unfolding Tracked
  if_tracked true m h = h
  if_tracked false m h = tt

  -- One pair, t and u being its sides as looked through.
  compare_terms_tracked : (s : Store) (t u : Term Leaf) (ps : List Pair) → look s.bindings t ≡ t → look s.bindings u ≡ u
      → Tracked s₀ (pairs s ps) → Tracked s₀ (compare_terms s t u ps)
  unfolding compare_terms Tracked
  compare_terms_tracked s (leaf (var x)) (leaf (var y)) ps et eu h = go (eqb x y)
    where
      go : (c : Bool) → Tracked s₀ (cond c (pairs s ps) (check s x (leaf (var y)) (leaf (var y)) [] ps))
      go true = h
      go false = check_tracked s x (leaf (var y)) ps et h
  compare_terms_tracked s (leaf (var x)) (leaf (con d j)) ps et eu h = check_tracked s x (leaf (con d j)) ps et h
  compare_terms_tracked s (leaf (var x)) (app g us) ps et eu h = check_tracked s x (app g us) ps et h
  compare_terms_tracked s (leaf (con c k)) (leaf (var y)) ps et eu h = check_tracked s y (leaf (con c k)) ps eu h
  compare_terms_tracked s (leaf (con c k)) (leaf (con d j)) ps et eu h = if_tracked (eqb c d && eqb k j) (pairs s ps) h
  compare_terms_tracked s (leaf (con c k)) (app g us) ps et eu h = tt
  compare_terms_tracked s (app f ts) (leaf (var y)) ps et eu h = check_tracked s y (app f ts) ps eu h
  compare_terms_tracked s (app f ts) (leaf (con d j)) ps et eu h = tt
  compare_terms_tracked s (app f ts) (app g us) ps et eu h =
      if_tracked (same_functor f g) (comparing s (push_pairs ts us ps)) (comparing_tracked s (push_pairs ts us ps) ps h)

  -- The binding of the node that is due, followed.
  follow_tracing : (s : Store) (y : ℕ) (t n u : Term Leaf) (ns : List (Term Leaf)) → Formed s → follow s.bindings n ≡ some u
      → Tracing s₀ s y t (n ∷ ns) → Tracing s₀ s y t (u ∷ ns)
  unfolding solution
  follow_tracing s y t n u ns f e c = record {
    later = c.later;
    own = c.own;
    seen = c.seen;
    within = (
      λ z v. c.within.0 z (subst (λ (w : Term Leaf). Appears w (var z)) (apply_follow s.bindings n u f.bound e) v),
      c.within.1,
    );
  }

  -- A pair: a binding followed on one side, or both sides compared.
  on_pair_tracked : (s : Store) (p : Pair) (ps : List Pair) (o q : Option (Term Leaf)) → follow s.bindings p.goal ≡ o
      → follow s.bindings p.clause ≡ q → Tracked s₀ (pairs s (p ∷ ps)) → Tracked s₀ (on_pair s p ps o q)
  unfolding on_pair Tracked
  on_pair_tracked s p ps (some t) q e f h = h
  on_pair_tracked s p ps none (some u) e f h = h
  on_pair_tracked s p ps none none e f h =
      compare_terms_tracked s p.goal p.clause ps (follow_none s.bindings p.goal e) (follow_none s.bindings p.clause f) h

  -- A node: its binding followed, or the node looked at.
  on_node_tracked : (s : Store) (y : ℕ) (t n : Term Leaf) (ns : List (Term Leaf)) (ps : List Pair) (o : Option (Term Leaf))
      → follow s.bindings n ≡ o → Formed s
      → Running R (on_node s y t n ns ps o) → Tracked s₀ (check s y t n ns ps) → Tracked s₀ (on_node s y t n ns ps o)
  unfolding on_node Tracked
  on_node_tracked s y t n ns ps (some u) e f r h = follow_tracing s y t n u ns f e h
  on_node_tracked s y t n ns ps none e f r h = visit_tracked s y t n ns ps f (follow_none s.bindings n e) r h

  -- One act.
  pub match_step_tracked : (m : Matching) → Running R m → Tracked s₀ m → Tracked s₀ (match_step m)
  unfolding match_step Tracked Running
  match_step_tracked (pairs s []) r h = h
  match_step_tracked (pairs s (p ∷ ps)) r h =
      on_pair_tracked s p ps (follow s.bindings p.goal) (follow s.bindings p.clause) refl refl h
  match_step_tracked (check s y t n ns ps) r h =
      on_node_tracked s y t n ns ps (follow s.bindings n) refl r.0.good.formed (match_step_running R (check s y t n ns ps) r) h
  match_step_tracked fail r h = tt

  -- Any number of acts.
  pub match_steps_tracked : (n : ℕ) (m : Matching) → Running R m → Tracked s₀ m → Tracked s₀ (match_steps n m)
  unfolding match_steps
  match_steps_tracked zero m r h = h
  match_steps_tracked (suc n) m r h = match_step_tracked (match_steps n m) (match_steps_running R n m r) (match_steps_tracked n m r h)
