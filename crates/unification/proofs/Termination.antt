-- Matching ends: each binding made leaves fewer variables unbound; between two of these acts the final values of what is left to look
-- at get smaller; and between two of those fewer bindings are left to follow.
use Prim.Native.Nat.{ℕ, zero, suc, ◌+◌, ◌≤◌, ◌<◌}
use mathlib.Core.Path.{◌≡◌, refl, sym, ◌∙◌, ap, subst}
use mathlib.Core.Bool.{Bool, true, false, cond, ◌&&◌, false≢true}
use mathlib.Core.List.{List, [], ◌∷◌}
use mathlib.Core.Option.{Option, none, some, map}
use native.Mathlib.Omega.{arith}
use lib.Dec.{eqb, leb}
use borrow.Author.Tests.{eqb-true, eqb-false, leb-true, leb-false}
use Rattle.terms.specs.Terms.{Functor, same_functor, Term, leaf, app, Terms, nil, cons, substitute, substitutes, size, sizes}
use Rattle.terms.proofs.Terms.{size_pos}
use Rattle.terms.proofs.Tests.{refuted}
use Rattle.unification.specs.Store.{Leaf, var, con, Binding, Store, follow, lower, bind, at, apply}
use Rattle.unification.specs.Matching.{Pair, Matching, pairs, check, fail, push_terms, push_pairs, comparing, after_node, visit}
use Rattle.unification.specs.Matching.{compare_terms, on_pair, on_node, match_step, match_steps, Ended}
use Rattle.unification.specs.Promises.{WellBound, Formed}
use Rattle.unification.proofs.Look.{is_unbound, is_unbound_true, unbound_is_unbound}
use Rattle.unification.proofs.Solution.{final, unbound_before}
use Rattle.unification.proofs.Follow.{apply_follow}
use Rattle.unification.proofs.Looking.{hops, follow_hop}
use Rattle.unification.proofs.Invariant.{Running, match_step_running}

-- How many numbers below n have the property

unfoldable how_many : (ℕ → Bool) → ℕ → ℕ
how_many p zero = 0
how_many p (suc n) = cond (p n) (suc (how_many p n)) (how_many p n)

-- No fewer numbers below n have the weaker of two properties.
how_many_le : (p q : ℕ → Bool) → ((x : ℕ) → q x ≡ true → p x ≡ true) → (n : ℕ) → how_many q n ≤ how_many p n
unfolding how_many
how_many_le p q h zero = omega arith
how_many_le p q h (suc n) = go (q n) (p n) (h n) (how_many_le p q h n)
  where
    go : (a b : Bool) → (a ≡ true → b ≡ true) → how_many q n ≤ how_many p n
        → cond a (suc (how_many q n)) (how_many q n) ≤ cond b (suc (how_many p n)) (how_many p n)
    go true true k ih = omega arith
    go true false k ih = absurd (false≢true (k refl))
    go false true k ih = omega arith
    go false false k ih = omega arith

-- More numbers below n have the weaker of two properties if y has only that one.
how_many_lt : (p q : ℕ → Bool) → ((x : ℕ) → q x ≡ true → p x ≡ true) → (y n : ℕ) → y < n → p y ≡ true → q y ≡ false
    → how_many q n < how_many p n
unfolding how_many
how_many_lt p q h y zero l a b = absurd (omega arith)
how_many_lt p q h y (suc n) l a b = go (eqb y n) refl (λ k. how_many_lt p q h y n k a b) (how_many_le p q h n)
  where
    more : (c d : Bool) → (c ≡ true → d ≡ true) → how_many q n < how_many p n
        → cond c (suc (how_many q n)) (how_many q n) < cond d (suc (how_many p n)) (how_many p n)
    more true true k ih = omega arith
    more true false k ih = absurd (false≢true (k refl))
    more false true k ih = omega arith
    more false false k ih = omega arith

    go : (c : Bool) → eqb y n ≡ c → (y < n → how_many q n < how_many p n) → how_many q n ≤ how_many p n
        → cond (q n) (suc (how_many q n)) (how_many q n) < cond (p n) (suc (how_many p n)) (how_many p n)
    go true e ih le = rw (sym (ap p (eqb-true y n e)) ∙ a, sym (ap q (eqb-true y n e)) ∙ b) (omega arith)
    go false e ih le = more (q n) (p n) (h n) (ih (let d = eqb-false y n e in omega arith))

-- The first measure: the unbound variables

unbounds : Store → ℕ
unbounds s = how_many (is_unbound s.bindings) s.next

-- A binding lowers it.
bind_unbounds : (s : Store) (y : ℕ) (t : Term Leaf) → Formed (bind s y t) → unbounds (bind s y t) < unbounds s
unfolding unbounds bind WellBound
bind_unbounds s y t f =
    let b : Binding = record { name = y; value = t } in
    let bs = s.bindings in
    how_many_lt (is_unbound bs) (is_unbound (b ∷ bs))
    (λ x e. unbound_is_unbound bs x (unbound_before b bs x f.bound (is_unbound_true (b ∷ bs) x e)).0) y s.next f.below.0.0
    (unbound_is_unbound bs y f.bound.0)
    (refuted (is_unbound (b ∷ bs) y) (λ e. (unbound_before b bs y f.bound (is_unbound_true (b ∷ bs) y e)).1 refl))

-- The second measure: the sizes of the final values

weight : List Binding → Term Leaf → ℕ
weight bs t = size (apply t (final bs))

-- Of arguments, of nodes, of pairs.
abbrev arguments_weight : List Binding → Terms Leaf → ℕ
arguments_weight bs ts = sizes (substitutes ts (at (final bs)))

weights : List Binding → List (Term Leaf) → ℕ
weights bs [] = 0
weights bs (n ∷ ns) = weight bs n + weights bs ns

pair_weights : List Binding → List Pair → ℕ
pair_weights bs [] = 0
pair_weights bs (p ∷ ps) = weight bs p.goal + weight bs p.clause + pair_weights bs ps

-- No term weighs nothing.
weight_pos : (bs : List Binding) (t : Term Leaf) → 1 ≤ weight bs t
unfolding weight
weight_pos bs t = size_pos (apply t (final bs))

-- A binding followed changes no weight.
weight_follow : (bs : List Binding) (t u : Term Leaf) → WellBound bs → follow bs t ≡ some u → weight bs u ≡ weight bs t
unfolding weight
weight_follow bs t u w e = ap size (apply_follow bs t u w e)

-- The measures of a matching

first : Matching → ℕ
first (pairs s ps) = unbounds s
first (check s y t n ns ps) = unbounds s
first fail = 0

second : Matching → ℕ
second (pairs s ps) = pair_weights s.bindings ps
second (check s y t n ns ps) = weights s.bindings (n ∷ ns) + pair_weights s.bindings ps
second fail = 0

-- The third: the bindings left to follow in what is due.
third : Matching → ℕ
third (pairs s []) = 0
third (pairs s (p ∷ ps)) = hops s.bindings p.goal + hops s.bindings p.clause
third (check s y t n ns ps) = hops s.bindings n
third fail = 0

-- Less than (u, k), the first measure first; or at the end.
data Less (u k : ℕ) (m : Matching) : Type 0 where
  at_end_lem : Ended m → Less u k m
  by_first : first m < u → Less u k m
  by_second : first m ≤ u → second m < k → Less u k m

-- What an act does to a matching: it ends it, or makes it less, by the first two measures or by the third alone.
data Falls (m n : Matching) : Type 0 where
  ended : Ended m → Falls m n
  less : Less (first m) (second m) n → Falls m n
  follows : first n ≤ first m → second n ≤ second m → third n < third m → Falls m n

-- The arguments weigh as much as their nodes.
push_terms_weights : (bs : List Binding) (ts : Terms Leaf) (ns : List (Term Leaf))
    → weights bs (push_terms ts ns) ≡ arguments_weight bs ts + weights bs ns
unfolding weights weight push_terms substitute size
push_terms_weights bs nil ns = omega arith
push_terms_weights bs (cons t ts) ns = let r = push_terms_weights bs ts ns in omega arith

-- What pushed pairs weigh: no more than both lists together.
abbrev Lighter : List Binding → ℕ → Option (List Pair) → Type 0
Lighter bs n none = Unit {0}
Lighter bs n (some qs) = pair_weights bs qs ≤ n

push_pairs_weights : (bs : List Binding) (ts us : Terms Leaf) (ps : List Pair)
    → Lighter bs (arguments_weight bs ts + arguments_weight bs us + pair_weights bs ps) (push_pairs ts us ps)
unfolding push_pairs pair_weights weight substitute size
push_pairs_weights bs nil nil ps = omega arith
push_pairs_weights bs nil (cons u us) ps = tt
push_pairs_weights bs (cons t ts) nil ps = tt
push_pairs_weights bs (cons t ts) (cons u us) ps = go (push_pairs ts us ps) (push_pairs_weights bs ts us ps)
  where
    go : (o : Option (List Pair)) → Lighter bs (arguments_weight bs ts + arguments_weight bs us + pair_weights bs ps) o
        → Lighter bs (arguments_weight bs (cons t ts) + arguments_weight bs (cons u us) + pair_weights bs ps)
        (map (λ qs. record { goal = t; clause = u } ∷ qs) o)
    go none b = tt
    go (some qs) b = omega arith

-- One act

-- The argument pairs of two lists of terms.
comparing_less : (s : Store) (ts us : Terms Leaf) (ps : List Pair) (k : ℕ)
    → arguments_weight s.bindings ts + arguments_weight s.bindings us + pair_weights s.bindings ps < k
    → Less (unbounds s) k (comparing s (push_pairs ts us ps))
unfolding comparing first second Ended
comparing_less s ts us ps k l = go (push_pairs ts us ps) (push_pairs_weights s.bindings ts us ps)
  where
    go : (o : Option (List Pair))
        → Lighter s.bindings (arguments_weight s.bindings ts + arguments_weight s.bindings us + pair_weights s.bindings ps) o
        → Less (unbounds s) k (comparing s o)
    go none b = at_end_lem tt
    go (some qs) b = by_second (omega arith) (omega arith)

-- A test that fails the matching.
if_less : (u k : ℕ) (b : Bool) (m : Matching) → Less u k m → Less u k (cond b m fail)
unfolding Ended
if_less u k true m h = h
if_less u k false m h = at_end_lem tt

-- A range check begins: it weighs one of the two sides.
check_less : (s : Store) (y : ℕ) (t : Term Leaf) (ps : List Pair) (k : ℕ) → weight s.bindings t + pair_weights s.bindings ps < k
    → Less (unbounds s) k (check s y t t [] ps)
unfolding first second weights
check_less s y t ps k l = by_second (omega arith) (omega arith)

-- The arguments weigh less than the two applications.
applications_less : (bs : List Binding) (f g : Functor) (ts us : Terms Leaf) (n k : ℕ) → weight bs (app f ts) + weight bs (app g us) + n ≤ k
    → arguments_weight bs ts + arguments_weight bs us + n < k
unfolding weight substitute size
applications_less bs f g ts us n k l = omega arith

-- One pair, t and u being its sides as looked through.
compare_terms_less : (s : Store) (t u : Term Leaf) (ps : List Pair) (k : ℕ) → 1 ≤ weight s.bindings t → 1 ≤ weight s.bindings u
    → weight s.bindings t + weight s.bindings u + pair_weights s.bindings ps ≤ k → Less (unbounds s) k (compare_terms s t u ps)
unfolding compare_terms first second Ended
compare_terms_less s (leaf (var x)) (leaf (var y)) ps k p q l = go (eqb x y)
  where
    go : (c : Bool) → Less (unbounds s) k (cond c (pairs s ps) (check s x (leaf (var y)) (leaf (var y)) [] ps))
    go true = by_second (omega arith) (omega arith)
    go false = check_less s x (leaf (var y)) ps k (omega arith)
compare_terms_less s (leaf (var x)) (leaf (con d j)) ps k p q l = check_less s x (leaf (con d j)) ps k (omega arith)
compare_terms_less s (leaf (var x)) (app g us) ps k p q l = check_less s x (app g us) ps k (omega arith)
compare_terms_less s (leaf (con c i)) (leaf (var y)) ps k p q l = check_less s y (leaf (con c i)) ps k (omega arith)
compare_terms_less s (leaf (con c i)) (leaf (con d j)) ps k p q l =
    if_less (unbounds s) k (eqb c d && eqb i j) (pairs s ps) (by_second (omega arith) (omega arith))
compare_terms_less s (leaf (con c i)) (app g us) ps k p q l = at_end_lem tt
compare_terms_less s (app f ts) (leaf (var y)) ps k p q l = check_less s y (app f ts) ps k (omega arith)
compare_terms_less s (app f ts) (leaf (con d j)) ps k p q l = at_end_lem tt
compare_terms_less s (app f ts) (app g us) ps k p q l =
    if_less (unbounds s) k (same_functor f g) (comparing s (push_pairs ts us ps))
    (comparing_less s ts us ps k (applications_less s.bindings f g ts us (pair_weights s.bindings ps) k l))

module _ (R : ℕ → Type 0) where
  -- After a node: the next one, or the binding.
  after_node_less : (s : Store) (y : ℕ) (t : Term Leaf) (ns : List (Term Leaf)) (ps : List Pair) (k : ℕ) → Running R (after_node s y t ns ps)
      → weights s.bindings ns + pair_weights s.bindings ps < k → Less (unbounds s) k (after_node s y t ns ps)
  unfolding after_node first second weights Running
  after_node_less s y t [] ps k r l = by_first (bind_unbounds s y t r.0.formed)
  after_node_less s y t (n ∷ ns) ps k r l = by_second (omega arith) l

  -- Looking at a node u, given as looked through, makes the measure smaller, or ends the matching.
  visit_less : (s : Store) (y : ℕ) (t u : Term Leaf) (ns : List (Term Leaf)) (ps : List Pair) (k : ℕ) → Running R (visit s y t u ns ps)
      → weight s.bindings u + weights s.bindings ns + pair_weights s.bindings ps ≤ k → Less (unbounds s) k (visit s y t u ns ps)
  unfolding visit weight substitute at size lower Ended unbounds
  visit_less s y t (leaf (var z)) ns ps k r l = go (eqb z y) r
    where
      go : (b : Bool) → Running R (cond b fail (after_node (lower s z (s.level y)) y t ns ps))
          → Less (unbounds s) k (cond b fail (after_node (lower s z (s.level y)) y t ns ps))
      go true r = at_end_lem tt
      go false r = after_node_less (lower s z (s.level y)) y t ns ps k r (let p = size_pos (final s.bindings z) in omega arith)
  visit_less s y t (leaf (con d j)) ns ps k r l = go (leb j (s.level y)) r
    where
      go : (b : Bool) → Running R (cond b (after_node s y t ns ps) fail) → Less (unbounds s) k (cond b (after_node s y t ns ps) fail)
      go true r = after_node_less s y t ns ps k r (omega arith)
      go false r = at_end_lem tt
  visit_less s y t (app f ts) ns ps k r l =
      after_node_less s y t (push_terms ts ns) ps k r (let p = push_terms_weights s.bindings ts ns in omega arith)

  -- A pair: a binding followed on one side, or both sides compared.
  on_pair_less : (s : Store) (p : Pair) (ps : List Pair) (o q : Option (Term Leaf)) → follow s.bindings p.goal ≡ o
      → follow s.bindings p.clause ≡ q → Formed s → Falls (pairs s (p ∷ ps)) (on_pair s p ps o q)
  unfolding on_pair first second third pair_weights
  on_pair_less s p ps (some t) q e g f =
      let a = weight_follow s.bindings p.goal t f.bound e in
      let b = (follow_hop s.bindings p.goal t f.bound e).1 in
      follows (omega arith) (omega arith) (omega arith)
  on_pair_less s p ps none (some u) e g f =
      let a = weight_follow s.bindings p.clause u f.bound g in
      let b = (follow_hop s.bindings p.clause u f.bound g).1 in
      follows (omega arith) (omega arith) (omega arith)
  on_pair_less s p ps none none e g f =
      less (compare_terms_less s p.goal p.clause ps _ (weight_pos s.bindings p.goal) (weight_pos s.bindings p.clause)
      (omega arith))

  -- A node: its binding followed, or the node looked at.
  on_node_less : (s : Store) (y : ℕ) (t n : Term Leaf) (ns : List (Term Leaf)) (ps : List Pair) (o : Option (Term Leaf))
      → follow s.bindings n ≡ o → Formed s
      → Running R (on_node s y t n ns ps o) → Falls (check s y t n ns ps) (on_node s y t n ns ps o)
  unfolding on_node first second third weights
  on_node_less s y t n ns ps (some u) e f r =
      let a = weight_follow s.bindings n u f.bound e in
      let b = (follow_hop s.bindings n u f.bound e).1 in
      follows (omega arith) (omega arith) (omega arith)
  on_node_less s y t n ns ps none e f r = less (visit_less s y t n ns ps _ r (omega arith))

  -- One act.
  match_step_less : (m : Matching) → Running R m → Falls m (match_step m)
  unfolding match_step Running Ended
  match_step_less (pairs s []) r = ended tt
  match_step_less (pairs s (p ∷ ps)) r =
      on_pair_less s p ps (follow s.bindings p.goal) (follow s.bindings p.clause) refl refl r.0.formed
  match_step_less (check s y t n ns ps) r =
      on_node_less s y t n ns ps (follow s.bindings n) refl r.0.good.formed (match_step_running R (check s y t n ns ps) r)
  match_step_less fail r = ended tt

-- All acts

abbrev Ends : Matching → Type 0
Ends m = (n : ℕ) × Ended (match_steps n m)

-- An act first, or an act last.
pub steps_after : (n : ℕ) (m : Matching) → match_steps n (match_step m) ≡ match_steps (suc n) m
unfolding match_steps
steps_after zero m = refl
steps_after (suc n) m = ap match_step (steps_after n m)

-- If the rest ends, all of it ends.
one_more_lem : (m : Matching) → Ends (match_step m) → Ends m
one_more_lem m e = (suc e.0, subst Ended (steps_after e.0 m) e.1)

-- An act does nothing at the end.
ended_step : (m : Matching) → Ended m → match_step m ≡ m
unfolding match_step Ended
ended_step (pairs s []) e = refl
ended_step (pairs s (p ∷ ps)) e = absurd e
ended_step (check s y t n ns ps) e = absurd e
ended_step fail e = refl

-- What has ended stays as it is.
pub ended_stays : (n : ℕ) (m : Matching) → Ended (match_steps n m) → (k : ℕ) → n ≤ k → match_steps k m ≡ match_steps n m
unfolding match_steps
ended_stays n m e zero l = ap (λ (j : ℕ). match_steps j m) (let z : 0 ≡ n = omega arith in z)
ended_stays n m e (suc k) l = go (leb n k) refl (λ h. ended_stays n m e k h)
  where
    go : (b : Bool) → leb n k ≡ b → (n ≤ k → match_steps k m ≡ match_steps n m) → match_step (match_steps k m) ≡ match_steps n m
    go true q ih = ap match_step (ih (leb-true n k q)) ∙ ended_step (match_steps n m) e
    go false q ih = ap (λ (j : ℕ). match_steps j m) (let z : suc k ≡ n = (let p = leb-false n k q in omega arith) in z)

module _ (R : ℕ → Type 0) where
  -- By the third measure, for one value of the other two; ih and jh say that all with a smaller first or second one end.
  ends_third : (u k : ℕ) → ((m : Matching) → Running R m → first m < u → Ends m)
      → ((m : Matching) → Running R m → first m ≤ u → second m < k → Ends m)
      → (h : ℕ) (m : Matching) → Running R m → first m ≤ u → second m ≤ k → third m < h → Ends m
  unfolding match_steps
  ends_third u k ih jh zero m r a b c = absurd (omega arith)
  ends_third u k ih jh (suc h) m r a b c =
      go (match_step_less R m r) (ends_third u k ih jh h (match_step m) (match_step_running R m r))
    where
      go : Falls m (match_step m)
          → (first (match_step m) ≤ u → second (match_step m) ≤ k → third (match_step m) < h → Ends (match_step m)) → Ends m
      go (ended e) rec = (0, e)
      go (less (at_end_lem e)) rec = (1, e)
      go (less (by_first d)) rec = one_more_lem m (ih (match_step m) (match_step_running R m r) (omega arith))
      go (less (by_second d e)) rec = one_more_lem m (jh (match_step m) (match_step_running R m r) (omega arith) (omega arith))
      go (follows d e l) rec = one_more_lem m (rec (omega arith) (omega arith) (omega arith))

  -- By the second measure, for one value of the first.
  ends_second : (u : ℕ) → ((m : Matching) → Running R m → first m < u → Ends m) → (k : ℕ) (m : Matching) → Running R m → first m ≤ u
      → second m < k → Ends m
  ends_second u ih zero m r a b = absurd (omega arith)
  ends_second u ih (suc k) m r a b = ends_third u k ih (ends_second u ih k) (suc (third m)) m r a (omega arith) (omega arith)

  -- By the first measure.
  ends_first : (u : ℕ) (m : Matching) → Running R m → first m < u → Ends m
  ends_first zero m r a = absurd (omega arith)
  ends_first (suc u) m r a = ends_second u (ends_first u) (suc (second m)) m r (omega arith) (omega arith)

  -- Every matching under way ends.
  pub matching_ends : (m : Matching) → Running R m → (n : ℕ) × Ended (match_steps n m)
  matching_ends m r = ends_first (suc (first m)) m r (omega arith)
