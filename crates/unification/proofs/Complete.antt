-- Matching is complete: what solves it solves it after every act, so that no act fails.
use Prim.Native.Nat.{ℕ, zero, suc, ◌≤◌, ◌<◌, min}
use mathlib.Core.Path.{◌≡◌, refl, sym, ◌∙◌, ap}
use mathlib.Core.Bool.{Bool, true, false, ◌&&◌, cond}
use mathlib.Core.List.{List, [], ◌∷◌}
use mathlib.Core.Option.{Option, none, some, map}
use mathlib.Core.Logic.{◌⊎◌, inl, inr}
use native.Mathlib.Omega.{arith}
use lib.Dec.{eqb, leb}
use borrow.Author.Tests.{eqb-true, eq-eqb, leb-false}
use Rattle.terms.specs.Lists.{All, update}
use Rattle.terms.specs.Terms.{Term, leaf, app, Terms, nil, cons, substitute, substitutes, size, sizes, level_by, levels_by, Leaves}
use Rattle.terms.proofs.Terms.{same_functor_lem, leaf_not_app, nil_not_cons}
use Rattle.unification.specs.Store.{Leaf, var, con, Store, follow, lower, bind}
use Rattle.unification.specs.Matching.{Pair, Matching, pairs, check, fail, push_terms, push_pairs, comparing, after_node, visit}
use Rattle.unification.specs.Matching.{compare_terms, on_pair, on_node, match_step, match_steps}
use Rattle.unification.specs.Promises.{Below}
use Rattle.unification.proofs.Valuation.{Domain, value, Solves, Equal}
use Rattle.unification.proofs.Follow.{not_none, follow_value, looked_follow}
use Rattle.unification.proofs.Sound.{SolvesMatching}
use Rattle.unification.proofs.Invariant.{Checking, Running, match_steps_running}

-- Two tests that are true.
true_and : (a b : Bool) → a ≡ true → b ≡ true → a && b ≡ true
true_and true b p q = q
true_and false b p q = p

module _ {B : Type 0} (D : Domain B) (σ : ℕ → Term B) where
  -- A node of the range check for y of t, which are to be equal: its value is no higher than that of y; it is t, or smaller.
  pub record Part (y : ℕ) (t n : Term Leaf) : Type 0 where
    pub level : level_by (substitute n (value D σ)) D.level ≤ level_by (σ y) D.level
    pub small : (n ≡ t) ⊎ (size (substitute n (value D σ)) < size (σ y))

  -- The nodes left in a range check are such parts.
  unfoldable pub Parts : Matching → Type 0
  Parts (pairs s ps) = Unit {0}
  Parts (check s y t n ns ps) = All (Part y t) (n ∷ ns)
  Parts fail = Unit {0}

  -- The valuation σ solves the matching, and the nodes of its range check are parts.
  abbrev pub Keeps : Matching → Type 0
  Keeps m = SolvesMatching D σ m × Parts m

  -- A level may be lowered to a bound that σ keeps.
  pub lower_complete : (s : Store) (z k : ℕ) → Solves D σ s → level_by (σ z) D.level ≤ k → z < s.next → Solves D σ (lower s z k)
  unfolding lower update
  lower_complete s z k v h l = record { equations = v.equations; levels = λ x b. go x (eqb x z) refl b }
    where
      go : (x : ℕ) (c : Bool) → eqb x z ≡ c → x < s.next → level_by (σ x) D.level ≤ cond c (min (s.level z) k) (s.level x)
      go x true e b = rw (eqb-true x z e) (let q = v.levels z l in omega arith)
      go x false e b = v.levels x b

  -- After a node: the next one, or the binding.
  after_node_complete : (s : Store) (y : ℕ) (t : Term Leaf) (ns : List (Term Leaf)) (ps : List Pair)
      → Solves D σ s → σ y ≡ substitute t (value D σ) → All (Equal D σ) ps → All (Part y t) ns → Keeps (after_node s y t ns ps)
  unfolding after_node SolvesMatching Parts bind
  after_node_complete s y t [] ps v e h p = ((record { equations = (e, v.equations); levels = v.levels }, h), tt)
  after_node_complete s y t (n ∷ ns) ps v e h p = ((v, e, h), p)

  -- The arguments of a part that is no larger than the value of y are smaller parts.
  push_terms_parts : (ts : Terms Leaf) (ns : List (Term Leaf)) (y : ℕ) (t : Term Leaf)
      → levels_by (substitutes ts (value D σ)) D.level ≤ level_by (σ y) D.level
      → sizes (substitutes ts (value D σ)) < size (σ y) → All (Part y t) ns → All (Part y t) (push_terms ts ns)
  unfolding push_terms substitute level_by size
  push_terms_parts nil ns y t l z h = h
  push_terms_parts (cons u us) ns y t l z h =
      (record { level = omega arith; small = inr (omega arith) }, push_terms_parts us ns y t (omega arith) (omega arith) h)

  -- Looking at a node u, given as looked through, keeps the matching solved by σ.
  visit_complete : (s : Store) (y : ℕ) (t u : Term Leaf) (ns : List (Term Leaf)) (ps : List Pair)
      → Solves D σ s → σ y ≡ substitute t (value D σ) → All (Equal D σ) ps → y < s.next → Leaves u (Below s.next)
      → (u ≡ leaf (var y) → ⊥)
      → level_by (substitute u (value D σ)) D.level ≤ level_by (σ y) D.level → size (substitute u (value D σ)) ≤ size (σ y)
      → All (Part y t) ns → Keeps (visit s y t u ns ps)
  unfolding visit substitute value level_by size Leaves Below
  visit_complete s y t (leaf (var z)) ns ps v e h ly bu d hl hs p = go (eqb z y) refl
    where
      go : (c : Bool) → eqb z y ≡ c → Keeps (cond c fail (after_node (lower s z (s.level y)) y t ns ps))
      go true q = absurd (d (ap (λ x. leaf (var x)) (eqb-true z y q)))
      go false q =
          after_node_complete (lower s z (s.level y)) y t ns ps
          (lower_complete s z (s.level y) v (let r = v.levels y ly in omega arith) bu) e h p
  visit_complete s y t (leaf (con c j)) ns ps v e h ly bu d hl hs p = go (leb j (s.level y)) refl
    where
      go : (b : Bool) → leb j (s.level y) ≡ b → Keeps (cond b (after_node s y t ns ps) fail)
      go true q = after_node_complete s y t ns ps v e h p
      go false q = absurd (let r = v.levels y ly in let w = leb-false j (s.level y) q in let k = D.level_constant c j in omega arith)
  visit_complete s y t (app f ts) ns ps v e h ly bu d hl hs p =
      after_node_complete s y t (push_terms ts ns) ps v e h (push_terms_parts ts ns y t hl hs p)

  -- The argument pairs of two lists of terms.
  pub comparing_complete : (s : Store) (ts us : Terms Leaf) (ps : List Pair) → Solves D σ s
      → substitutes ts (value D σ) ≡ substitutes us (value D σ) → All (Equal D σ) ps
      → Keeps (comparing s (push_pairs ts us ps))
  unfolding push_pairs comparing SolvesMatching Parts substitute
  comparing_complete s nil nil ps v e h = ((v, h), tt)
  comparing_complete s nil (cons u us) ps v e h = absurd (nil_not_cons (substitute u (value D σ)) (substitutes us (value D σ)) e)
  comparing_complete s (cons t ts) nil ps v e h = absurd (nil_not_cons (substitute t (value D σ)) (substitutes ts (value D σ)) (sym e))
  comparing_complete s (cons t ts) (cons u us) ps v e h = go (push_pairs ts us ps) (comparing_complete s ts us ps v (cc) h)
    where
      go : (q : Option (List Pair)) → Keeps (comparing s q)
          → Keeps (comparing s (map (λ qs. record { goal = t; clause = u } ∷ qs) q))
      go none i = absurd i.0
      go (some qs) i = ((v, ((cc), i.0.1)), tt)

  -- A range check begins.
  check_complete : (s : Store) (y : ℕ) (t : Term Leaf) (ps : List Pair) → Solves D σ s → σ y ≡ substitute t (value D σ)
      → All (Equal D σ) ps → Keeps (check s y t t [] ps)
  unfolding SolvesMatching Parts
  check_complete s y t ps v e h = ((v, e, h), (record { level = rw e (omega arith); small = inl refl }, tt))

  -- One pair, t and u being its sides as looked through.
  compare_terms_complete : (s : Store) (t u : Term Leaf) (ps : List Pair) → Solves D σ s
      → substitute t (value D σ) ≡ substitute u (value D σ) → All (Equal D σ) ps
      → Keeps (compare_terms s t u ps)
  unfolding compare_terms SolvesMatching Parts substitute value
  compare_terms_complete s (leaf (var x)) (leaf (var y)) ps v e h = go (eqb x y)
    where
      go : (c : Bool) → Keeps (cond c (pairs s ps) (check s x (leaf (var y)) (leaf (var y)) [] ps))
      go true = ((v, h), tt)
      go false = check_complete s x (leaf (var y)) ps v e h
  compare_terms_complete s (leaf (var x)) (leaf (con d j)) ps v e h = check_complete s x (leaf (con d j)) ps v e h
  compare_terms_complete s (leaf (var x)) (app g us) ps v e h = check_complete s x (app g us) ps v e h
  compare_terms_complete s (leaf (con c k)) (leaf (var y)) ps v e h = check_complete s y (leaf (con c k)) ps v (sym e) h
  compare_terms_complete s (leaf (con c k)) (leaf (con d j)) ps v e h =
      let q : D.constant c k ≡ D.constant d j = cc in
      let level : k ≡ j = sym (D.level_constant c k) ∙ ap D.level q ∙ D.level_constant d j in
      rw (true_and (eqb c d) (eqb k j) (eq-eqb c d (D.constant_number c k d j q)) (eq-eqb k j level)) ((v, h), tt)
  compare_terms_complete s (leaf (con c k)) (app g us) ps v e h = absurd (leaf_not_app (D.constant c k) g (substitutes us (value D σ)) e)
  compare_terms_complete s (app f ts) (leaf (var y)) ps v e h = check_complete s y (app f ts) ps v (sym e) h
  compare_terms_complete s (app f ts) (leaf (con d j)) ps v e h =
      absurd (leaf_not_app (D.constant d j) f (substitutes ts (value D σ)) (sym e))
  compare_terms_complete s (app f ts) (app g us) ps v e h = rw (same_functor_lem f g (cc)) (comparing_complete s ts us ps v (cc) h)

  -- A node is not y: it is t, which is not, or it is too small.
  not_itself : (R : ℕ → Type 0) (s : Store) (y : ℕ) (t n : Term Leaf) (ns : List (Term Leaf)) → Checking R s y t ns → Part y t n
      → n ≡ leaf (var y) → ⊥
  unfolding substitute value
  not_itself R s y t n ns c p q = go p.small
    where
      go : (n ≡ t) ⊎ (size (substitute n (value D σ)) < size (σ y)) → ⊥
      go (inl e) = c.other (sym e ∙ q)
      go (inr l) =
          let w : size (substitute n (value D σ)) ≡ size (σ y) = ap (λ (u : Term Leaf). size (substitute u (value D σ))) q in omega arith

  -- A part is no larger than the value of y.
  part_size : (y : ℕ) (t n : Term Leaf) → σ y ≡ substitute t (value D σ) → (n ≡ t) ⊎ (size (substitute n (value D σ)) < size (σ y))
      → size (substitute n (value D σ)) ≤ size (σ y)
  part_size y t n e (inl p) = rw (e, p) (omega arith)
  part_size y t n e (inr l) = omega arith

  -- A pair: a binding followed on one side, or both sides compared.
  on_pair_complete : (s : Store) (p : Pair) (ps : List Pair) (o q : Option (Term Leaf)) → follow s.bindings p.goal ≡ o
      → follow s.bindings p.clause ≡ q → Keeps (pairs s (p ∷ ps)) → Keeps (on_pair s p ps o q)
  unfolding on_pair SolvesMatching Parts
  on_pair_complete s p ps (some t) q e f k =
      ((k.0.0, (follow_value D σ s.bindings p.goal t k.0.0.equations e ∙ k.0.1.0, k.0.1.1)), tt)
  on_pair_complete s p ps none (some u) e f k =
      ((k.0.0, (k.0.1.0 ∙ sym (follow_value D σ s.bindings p.clause u k.0.0.equations f), k.0.1.1)), tt)
  on_pair_complete s p ps none none e f k = compare_terms_complete s p.goal p.clause ps k.0.0 k.0.1.0 k.0.1.1

  -- A binding followed gives a part: t itself is looked through, so it is not followed.
  follow_part : (R : ℕ → Type 0) (s : Store) (y : ℕ) (t n u : Term Leaf) (ns : List (Term Leaf)) → Solves D σ s → Checking R s y t ns
      → follow s.bindings n ≡ some u → Part y t n → Part y t u
  follow_part R s y t n u ns v c e p = record { level = rw same p.level; small = go p.small }
    where
      same : substitute u (value D σ) ≡ substitute n (value D σ)
      same = follow_value D σ s.bindings n u v.equations e

      go : (n ≡ t) ⊎ (size (substitute n (value D σ)) < size (σ y)) → (u ≡ t) ⊎ (size (substitute u (value D σ)) < size (σ y))
      go (inl q) =
          absurd (not_none u (sym e ∙ ap (follow s.bindings) q ∙ looked_follow s.bindings t c.good.formed.bound c.looked))
      go (inr l) = inr (rw same l)

  -- A node: its binding followed, or the node looked at.
  on_node_complete : (R : ℕ → Type 0) (s : Store) (y : ℕ) (t n : Term Leaf) (ns : List (Term Leaf)) (ps : List Pair)
      (o : Option (Term Leaf)) → follow s.bindings n ≡ o
      → Running R (check s y t n ns ps) → Keeps (check s y t n ns ps) → Keeps (on_node s y t n ns ps o)
  unfolding on_node SolvesMatching Parts Running
  on_node_complete R s y t n ns ps (some u) e r k =
      (k.0, (follow_part R s y t n u (n ∷ ns) k.0.0 r.0 e k.1.0, k.1.1))
  on_node_complete R s y t n ns ps none e r k =
      visit_complete s y t n ns ps k.0.0 k.0.1 k.0.2 r.0.low r.0.nodes.0
      (not_itself R s y t n (n ∷ ns) r.0 k.1.0) k.1.0.level (part_size y t n k.0.1 k.1.0.small) k.1.1

  -- One act.
  pub match_step_complete : (R : ℕ → Type 0) (m : Matching) → Running R m → Keeps m → Keeps (match_step m)
  unfolding match_step SolvesMatching
  match_step_complete R (pairs s []) r k = k
  match_step_complete R (pairs s (p ∷ ps)) r k =
      on_pair_complete s p ps (follow s.bindings p.goal) (follow s.bindings p.clause) refl refl k
  match_step_complete R (check s y t n ns ps) r k = on_node_complete R s y t n ns ps (follow s.bindings n) refl r k
  match_step_complete R fail r k = absurd k.0

  -- Any number of acts.
  pub match_steps_complete : (R : ℕ → Type 0) (n : ℕ) (m : Matching) → Running R m → Keeps m → Keeps (match_steps n m)
  unfolding match_steps
  match_steps_complete R zero m r k = k
  match_steps_complete R (suc n) m r k = match_step_complete R (match_steps n m) (match_steps_running R n m r) (match_steps_complete R n m r k)
